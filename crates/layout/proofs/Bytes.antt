-- An image is bytes, where its parts are small enough.
use Prim.Native.Nat.{◌<◌, ℕ, ◌≤◌}
use mathlib.Core.Bool.{Bool, false, true}
use mathlib.Core.List.{◌++◌, List, [], ◌∷◌}
use mathlib.Core.Path.{refl}
use native.Mathlib.Omega.{arith}
use lib.ListN.{length}
use Rattle.adler.proofs.Seen.{adler-small}
use Rattle.adler.specs.Adler.{adler32}
use Rattle.book.specs.Book.{Limits}
use Rattle.book.specs.declared.Entry.{Entry}
use Rattle.book.specs.declared.Kind.{Kind}
use Rattle.layout.specs.Layout.{body_of, entry_bytes, flat, kind_bytes, name, sealed, sum_bytes, version}
use Rattle.lists.proofs.Bytes.{bytes-all, bytes-append, bytes-tested}
use Rattle.lists.specs.Lists.{All, Bytes, one}
use Rattle.tapa.specs.Numbers.{two_bytes}

-- an entry whose parts have room in their bytes
pub record Small (x : Entry) : Type 0 where
  pub file : x.file ≤ 255
  pub pointer : x.pointer ≤ 65535
  pub slot : x.slot ≤ 255
  pub key : x.keylen ≤ 255
  pub body : x.len ≤ 255

flat-bytes : {A : Type 0} (P : A → Type 0) (f : A → List ℕ) → ((x : A) → P x → Bytes (f x)) → (l : List A) → All P l → Bytes (flat f l)
flat-bytes P f h [] a = bytes-tested [] refl
flat-bytes P f h (x ∷ l) a = bytes-append (f x) (flat f l) (h x a.0) (flat-bytes P f h l a.1)

flag_small : (m : Bool) → one m < 256
flag_small true = omega arith
flag_small false = omega arith

kind-bytes : (k : Kind) → Limits k → Bytes (kind_bytes k)
kind-bytes k h = bytes-all (kind_bytes k) (flag_small k.made, (omega arith, (omega arith, tt)))

entry-bytes : (x : Entry) → Small x → Bytes (entry_bytes x)
entry-bytes x h = bytes-all (entry_bytes x) (omega arith, (omega arith, (omega arith, (omega arith, (omega arith, (omega arith, tt))))))

word_bytes : (n : ℕ) → n ≤ 65535 → Bytes (two_bytes n)
word_bytes n h = bytes-all (two_bytes n) (omega arith, (omega arith, tt))

pub written-bytes : (ks : List Kind) (l : List Entry) (slots : List ℕ) → All Limits ks → length l ≤ 256 → All Small l → Bytes slots → Bytes (sealed (body_of ks l slots))
written-bytes ks l slots limits few small bytes =
    let s = adler32 (body_of ks l slots) in
    let e = bytes-append (flat entry_bytes l) slots (flat-bytes Small entry_bytes entry-bytes l small) bytes in
    let w = bytes-append (two_bytes (length l)) (flat entry_bytes l ++ slots) (word_bytes (length l) (omega arith)) e in
    let k = bytes-append (flat kind_bytes ks) (two_bytes (length l) ++ (flat entry_bytes l ++ slots)) (flat-bytes Limits kind_bytes kind-bytes ks limits) w in
    let body = bytes-append (name ++ version) (flat kind_bytes ks ++ (two_bytes (length l) ++ (flat entry_bytes l ++ slots))) (bytes-tested (name ++ version) refl) k in
    let sum = bytes-append (two_bytes s.high) (two_bytes s.low) (word_bytes s.high (omega (arith, adler-small (body_of ks l slots)))) (word_bytes s.low (omega (arith, adler-small (body_of ks l slots)))) in
    bytes-append (body_of ks l slots) (sum_bytes s) body sum
