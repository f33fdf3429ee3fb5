-- What Find shows.
use Rattle.std.proofs.Common.{subst, sym, ◌∙◌, arith}
use Rattle.files.specs.Asked.{file_in, key_from, key_shape}
use Rattle.sights.proofs.Steps.{found_inside}
use Rattle.sights.specs.Sights.{find_of}
use Rattle.store.proofs.Deeds.{key-rest, key-there, seen}
use Rattle.store.specs.Store.{Shows}
use Rattle.store_answers.proofs.on_find.Goals as goal

pub slice_bounds-find-count : goal.slice_bounds-find-count
slice_bounds-find-count c = omega (arith, key-there c.args.part.now (sym c.if-not-has_key.ensures))

pub slice_bounds-find-start : goal.slice_bounds-find-start
slice_bounds-find-start c = omega (arith, key-there c.args.part.now (sym c.if-not-has_key.ensures))

pub shown-requires-clause-shows : goal.shown-requires-clause-shows
shown-requires-clause-shows c =
    let a = c.args in
    let k = key-rest a.part.now (sym c.if-not-has_key.ensures) in
    let e = c.find-done.ensures ∙ (λ i. find_of a.b a.area.now (c.word_at.ensures i) (k i)) in
    subst (Shows a.b) (sym e) (found_inside a.b c.requires.shape (file_in a.part.now) a.area.now (key_from a.part.now 2))

pub returns : goal.returns
returns c =
    let a = c.args in
    let t = sym c.if-not-has_key.ensures in
    let k = key-rest a.part.now t in
    let e = c.find-done.ensures ∙ (λ i. find_of a.b a.area.now (c.word_at.ensures i) (k i)) in
    seen (key_shape a.part.now) c.find-done.result (find_of a.b a.area.now (file_in a.part.now) (key_from a.part.now 2)) a.b a.area.now _ _ _ c.requires t e c.shown.ensures
