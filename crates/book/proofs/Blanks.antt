-- A row and an entry whose fields are all 0 are those of no file and of no record.
use mathlib.Core.Bool.{false}
use mathlib.Core.Path.{◌≡◌}
use Rattle.book.specs.Book.{no_entry, no_kind}
use Rattle.book.specs.declared.Entry.{Entry}
use Rattle.book.specs.declared.Kind.{Kind}

pub blank-kind : (k : Kind) → (k.made ≡ false) × ((k.keymax ≡ 0) × (k.recmax ≡ 0)) → k ≡ no_kind
blank-kind k e = λ i. record { made = e.0 i; keymax = e.1.0 i; recmax = e.1.1 i }

pub blank-entry : (x : Entry) → (x.file ≡ 0) × ((x.pointer ≡ 0) × ((x.slot ≡ 0) × ((x.keylen ≡ 0) × (x.len ≡ 0)))) → x ≡ no_entry
blank-entry x e = λ i. record { file = e.0 i; pointer = e.1.0 i; slot = e.1.1.0 i; keylen = e.1.1.1.0 i; len = e.1.1.1.1 i }
