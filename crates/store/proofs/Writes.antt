-- The response's data, written piece after piece.
use Prim.Native.Nat.{◌%◌, ◌*◌, ◌+◌, ◌/◌, ◌<◌, ℕ, ◌≤◌}
use Rattle.std.specs.Prelude.{Some}
use mathlib.Core.List.{◌++◌, List, [], append_assoc, ◌∷◌}
use mathlib.Core.Path.{ap, refl, sym, ◌∙◌, ◌≡◌}
use native.Mathlib.Omega.{arith}
use lib.ListN.{drop, get_or, length, length-append, length-drop, take}
use lib.Seq.{length-take-le}
use Rattle.book.specs.Book.{rec_of}
use Rattle.book.specs.declared.Entry.{Entry}
use Rattle.files.specs.Asked.{sight_bytes, words_of}
use Rattle.lists.proofs.ByPlace.{take_more}
use Rattle.lists.specs.Lists.{over}
use Rattle.lists.proofs.Over.{over-long, then}
use Rattle.slots.proofs.Slots.{bytes-are, window-long}
use Rattle.slots.specs.Slots.{bytes_of, window}
use Rattle.tapa.specs.Numbers.{two_bytes}

-- ---- identifiers

pub words_long : (l : List ℕ) → length (words_of l) ≡ length l * 2
words_long [] = refl
words_long (x ∷ l) = omega (arith, words_long l)

words_snoc : (l : List ℕ) (x : ℕ) → words_of (l ++ x ∷ []) ≡ words_of l ++ two_bytes x
words_snoc [] x = refl
words_snoc (y ∷ l) x = ap (λ (z : List ℕ). y / 256 ∷ y % 256 ∷ z) (words_snoc l x)

pub record Placed (before ids after : List ℕ) (i : ℕ) : Type 0 where
  pub body : after ≡ over before 0 (words_of (take i ids))
  pub same : length after ≡ length before

pub placed-more : (before ids after next : List ℕ) (i : ℕ) → length ids ≡ 16 → 32 ≤ length before → i < 16 → Placed before ids after i
    → next ≡ over after (i * 2) (two_bytes (get_or ids i 0)) → Placed before ids next (i + 1)
placed-more before ids after next i long room h p e =
    let w = words_of (take i ids) in
    let size : length w ≡ i * 2 = words_long (take i ids) ∙ ap (λ (n : ℕ). n * 2) (length-take-le i ids (omega arith)) in
    let more : words_of (take (i + 1) ids) ≡ w ++ two_bytes (get_or ids i 0) = ap words_of (take_more 0 ids i (omega arith)) ∙ words_snoc (take i ids) (get_or ids i 0) in
    let whole : next ≡ over before 0 (w ++ two_bytes (get_or ids i 0)) = then before w (two_bytes (get_or ids i 0)) after next (i * 2) p.body (sym size) e (omega arith) in
    record { body = whole ∙ ap (over before 0) (sym more); same = ap length e ∙ over-long after (i * 2) (two_bytes (get_or ids i 0)) (omega (arith, p.same)) ∙ p.same }

-- ---- a record

module _ (area : List ℕ) (x : Entry) (long : length area ≡ 98048) (slot : x.slot ≤ 255) (key : x.keylen ≤ 255) (body : x.len ≤ 128) where
  pub key-is : (k : ℕ) → k ≡ x.keylen → bytes_of area x.slot 0 k ≡ (rec_of area x).key
  key-is k e = ap (bytes_of area x.slot 0) e ∙ bytes-are area x.slot long slot 0 x.keylen (omega arith)

  pub body_is : (k n : ℕ) → k ≡ x.keylen → n ≡ x.len → bytes_of area x.slot k n ≡ (rec_of area x).bytes
  body_is k n e f = (λ i. bytes_of area x.slot (e i) (f i)) ∙ bytes-are area x.slot long slot x.keylen x.len (omega arith)

  pub key-long : length (rec_of area x).key ≡ x.keylen
  key-long = length-take-le x.keylen (window area x.slot) (omega (arith, window-long area x.slot long slot))

  pub body-long : length (rec_of area x).bytes ≡ x.len
  body-long = length-take-le x.len (drop x.keylen (window area x.slot)) (simp length-drop (omega (arith, window-long area x.slot long slot)))

  pub record-written : (buf : List ℕ) (p k : ℕ) (P Q b1 b2 b3 b4 b5 : List ℕ) (n1 n2 n3 n4 n5 : ℕ) → 390 ≤ length buf → k ≡ x.keylen → P ≡ (rec_of area x).key → Q ≡ (rec_of area x).bytes
      → b1 ≡ over buf 0 (k ∷ []) → n1 ≡ 0 + 1 → b2 ≡ over b1 n1 P → n2 ≡ n1 + length P → b3 ≡ over b2 n2 (two_bytes x.len) → n3 ≡ n2 + 2
      → b4 ≡ over b3 n3 Q → n4 ≡ n3 + length Q → b5 ≡ over b4 n4 (two_bytes p) → n5 ≡ n4 + 2
      → (n5 ≡ x.keylen + x.len + 5) × (b5 ≡ over buf 0 (sight_bytes (Some (rec_of area x)) p))
  record-written buf p k P Q b1 b2 b3 b4 b5 n1 n2 n3 n4 n5 room ek eP eQ e1 m1 e2 m2 e3 m3 e4 m4 e5 m5 =
      let lp : length P ≡ x.keylen = ap length eP ∙ key-long in
      let lq : length Q ≡ x.len = ap length eQ ∙ body-long in
      let a : List ℕ = k ∷ [] in
      let c : List ℕ = two_bytes x.len in
      let e : List ℕ = two_bytes p in
      let s2 = then buf a P b1 b2 n1 e1 (omega arith) e2 (omega arith) in
      let l2 : length (a ++ P) ≡ 1 + length P = length-append a P in
      let s3 = then buf (a ++ P) c b2 b3 n2 s2 (omega arith) e3 (omega arith) in
      let l3 : length ((a ++ P) ++ c) ≡ length (a ++ P) + 2 = length-append (a ++ P) c in
      let s4 = then buf ((a ++ P) ++ c) Q b3 b4 n3 s3 (omega arith) e4 (omega arith) in
      let l4 : length (((a ++ P) ++ c) ++ Q) ≡ length ((a ++ P) ++ c) + length Q = length-append ((a ++ P) ++ c) Q in
      let s5 = then buf (((a ++ P) ++ c) ++ Q) e b4 b5 n4 s4 (omega arith) e5 (omega arith) in
      let flat : (((a ++ P) ++ c) ++ Q) ++ e ≡ a ++ (P ++ (c ++ (Q ++ e))) = simp append_assoc in
      let size : k ≡ length (rec_of area x).key = ek ∙ sym key-long in (
        omega arith,
        s5 ∙ ap (over buf 0) flat ∙ (λ i. over buf 0 (size i ∷ (eP i ++ (two_bytes (sym body-long i) ++ (eQ i ++ e))))),
      )

  pub sight-long : (p : ℕ) → length (sight_bytes (Some (rec_of area x)) p) ≡ x.keylen + x.len + 5
  sight-long p =
      let r = rec_of area x in
      let a = length-append r.key (two_bytes (length r.bytes) ++ (r.bytes ++ two_bytes p)) in
      let c = length-append r.bytes (two_bytes p) in
      omega (arith, a, c, key-long, body-long)
