-- No form is written; one form more is.
use Rattle.std.proofs.Common.{arith}
use Rattle.text.proofs.Laws.{wrote_none}
use Rattle.forms.proofs.Filling.{form-more}
use Rattle.show_forms.proofs.put_forms.Goals as goal

pub loop-i-init : goal.loop-i-init
loop-i-init c = wrote_none _

pub loop-i-preserved : goal.loop-i-preserved
loop-i-preserved c = form-more c.args.sheet.now c.args.list.now c.loop-i.i _ c.loop-i.invariant c.put_form.ensures (omega arith)
