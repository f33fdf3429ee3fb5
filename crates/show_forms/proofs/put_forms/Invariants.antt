-- The first `i` forms are written.
use Rattle.text.specs.Text.{Writes}
use Rattle.forms.specs.Forms.{first_forms}
use Rattle.show_forms.proofs.put_forms.Given as goal

abbrev pub invariant-loop-i : goal.invariant-loop-i
invariant-loop-i l = Writes l.fn.out l.out (first_forms l.sheet l.list l.i)
