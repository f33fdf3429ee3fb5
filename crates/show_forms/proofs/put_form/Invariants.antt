-- With what is left of the wording, filled from `k` on, it is the whole form.
use Rattle.std.proofs.Common.{drop, ◌+◌, ◌≤◌}
use Rattle.text.proofs.Laws.{Left}
use Rattle.forms.specs.Forms.{filled, form_text}
use Rattle.show_forms.proofs.put_form.Given as goal

abbrev pub invariant-loop-byte : goal.invariant-loop-byte
invariant-loop-byte l =
    (l.k ≤ l.byte-index + 1) × Left l.fn.out l.out (filled l.sheet l.form l.k (drop l.byte-index l.wording)) (form_text l.sheet l.form)
