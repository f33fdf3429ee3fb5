-- Its shape, then what Get shows.
use Rattle.std.proofs.Common.{get_or, subst, sym, ◌∙◌, arith}
use Rattle.files.specs.Asked.{file_in, get_shape}
use Rattle.sights.proofs.Steps.{get-inside}
use Rattle.sights.specs.Sights.{get_of}
use Rattle.store.proofs.Deeds.{get-far, get-fits, get-long, seen, wrong}
use Rattle.store.specs.Store.{Shows}
use Rattle.tapa.specs.Numbers.{word_at}
use Rattle.store_answers.proofs.on_get.Goals as goal

pub returns-then-part-ne5 : goal.returns-then-part-ne5
returns-then-part-ne5 c =
    wrong (get_shape c.args.part.now) _ c.args.b c.args.area.now _ _ _ c.requires (get-long c.args.part.now c.if-part-ne5.true) c.code_alone.ensures

pub returns-then-orientation-gt3 : goal.returns-then-orientation-gt3
returns-then-orientation-gt3 c =
    wrong (get_shape c.args.part.now) _ c.args.b c.args.area.now _ _ _ c.requires (get-far c.args.part.now c.if-part-ne5.false (omega arith)) c.code_alone-then-orientation-gt3.ensures

pub shown-requires-clause-shows : goal.shown-requires-clause-shows
shown-requires-clause-shows c =
    let a = c.args in
    let e = c.get.ensures ∙ (λ i. get_of a.b (c.word_at-f.ensures i) (c.word_at-p.ensures i) (get_or a.part.now 4 0)) in
    subst (Shows a.b) (sym e) (get-inside a.b c.requires.shape (file_in a.part.now) (word_at a.part.now 2) (get_or a.part.now 4 0))

pub returns : goal.returns
returns c =
    let a = c.args in
    let e = c.get.ensures ∙ (λ i. get_of a.b (c.word_at-f.ensures i) (c.word_at-p.ensures i) (get_or a.part.now 4 0)) in
    seen (get_shape a.part.now) c.get.result (get_of a.b (file_in a.part.now) (word_at a.part.now 2) (get_or a.part.now 4 0)) a.b a.area.now _ _ _ c.requires
    (get-fits a.part.now c.if-part-ne5.false (omega arith)) e c.shown.ensures
