-- The record and its code.
use Rattle.std.proofs.Common.{◌≡◌, ◌<◌, ◌≤◌, ℕ, ◌+◌, ◌-◌, List, ◌++◌, length, get_or, ap, refl, subst, sym, ◌∙◌, arith, length-append}
use Rattle.std.specs.Prelude.{Some}
use Rattle.book.proofs.Laws.{row-limits}
use Rattle.book.specs.Book.{Fits, entries_of, no_entry, rec_of}
use Rattle.book.specs.declared.Entry.{Entry}
use Rattle.files.specs.Asked.{sight_bytes}
use Rattle.lists.proofs.ByPlace.{all-at}
use Rattle.lists.proofs.Over.{over-start, then}
use Rattle.lists.specs.Lists.{onto, over}
use Rattle.store.proofs.Deeds.{unseen-alone}
use Rattle.store.proofs.Writes.{sight-long}
use Rattle.store.specs.Store.{Says, Shows}
use Rattle.tapa.specs.Numbers.{two_bytes}
use Rattle.store_answers.proofs.shown.Goals as goal

pub returns-in-Ok : goal.returns-in-Ok
returns-in-Ok c =
    let a = c.args in
    let s = c.requires in
    let g = c.in-Ok.got in
    let x = c.entry_at.result in
    let p = sight_bytes (Some (rec_of a.area.now x)) g.other in
    let v = c.put_record-end.ensures in
    let w = c.put_word.ensures in
    let there : g.«at» < length (entries_of a.b) = subst (Shows a.b) c.in-Ok.is s.shows in
    let e : x ≡ get_or (entries_of a.b) g.«at» no_entry = c.entry_at.ensures in
    let f : Fits a.b.kinds x = rw e (all-at no_entry (Fits a.b.kinds) (entries_of a.b) g.«at» there s.lawful.fit) in
    let l = row-limits a.b.kinds (x.file - 1) s.lawful.limits in
    let k : x.keylen ≤ 255 = omega (arith, f.key, l.0) in
    let d : x.len ≤ 128 = omega (arith, f.body, l.1) in
    let n : length p ≡ x.keylen + x.len + 5 = sight-long a.area.now x s.lawful.roomy f.slot k d g.other in
    let two : c.put_word.new.body ≡ over a.body.now 0 (p ++ two_bytes 0) =
    then a.body.now p (two_bytes 0) c.put_record-end.new.body c.put_word.new.body c.put_record-end.result v.1 (omega (arith, v.0, n)) w.1 (omega (arith, n, k, d)) in
    rw c.in-Ok.is
    (record {
      long = omega (arith, v.0, w.0, n, length-append p (two_bytes 0), ap (λ (y : Entry). length (sight_bytes (Some (rec_of a.area.now y)) g.other ++ two_bytes 0)) e);
      next = refl;
      body = two ∙ over-start a.body.now (p ++ two_bytes 0) ∙ (λ i. onto (sight_bytes (Some (rec_of a.area.now (e i))) g.other ++ two_bytes 0) a.body.now);
    })

pub returns-in-Err : goal.returns-in-Err
returns-in-Err c =
    let a = c.args in
    rw c.in-Err.is (subst (λ (p : List ℕ). Says p a.body.now c.code_alone.new.body a.b c.code_alone.result) (sym (unseen-alone c.in-Err.code)) c.code_alone.ensures)
