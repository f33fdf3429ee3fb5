-- The length is as LEN_SKEY and LEN_REC say.
use Rattle.std.proofs.Common.{◌≡◌, ℕ, ◌+◌, false, leb, List, length, get_or, refl, sym, ap, ◌∙◌, arith, eq-eqb, ne_eqb}
use Rattle.files.specs.Asked.{key_len, rec_len, record_shape}
use Rattle.tapa.specs.Numbers.{word_at}
use Rattle.store_asked.proofs.has_record.Goals as goal

module _ (part : List ℕ) (at k r : ℕ) (ek : k ≡ get_or part at 0) (er : r ≡ word_at part (at + 1 + k)) where
  sum : at + 3 + k + r ≡ at + 3 + key_len part at + rec_len part at
  sum = ap (λ (n : ℕ). at + 3 + k + n) len ∙ ap (λ (n : ℕ). at + 3 + n + rec_len part at) ek
    where
      len : r ≡ rec_len part at
      len = er ∙ ap (λ (n : ℕ). word_at part (at + 1 + n)) ek

  fits : length part ≡ at + 3 + k + r → leb r 128 ≡ record_shape at part
  unfolding record_shape
  fits e = sym (rw (eq-eqb (length part) _ (e ∙ sum)) (sym (ap (λ (n : ℕ). leb n 128) (er ∙ ap (λ (n : ℕ). word_at part (at + 1 + n)) ek))))

  differs : (length part ≡ at + 3 + k + r → ⊥) → false ≡ record_shape at part
  unfolding record_shape
  differs h = sym (rw (ne_eqb (length part) _ (λ e. h (e ∙ sym sum))))

pub returns-then-size-at : goal.returns-then-size-at
returns-then-size-at c = differs c.args.part.now c.args.at _ _ refl refl (λ e. omega (arith, c.if-size-at.true))

pub returns-then-size-at-2 : goal.returns-then-size-at-2
returns-then-size-at-2 c = fits c.args.part.now c.args.at _ _ (c.from-key.ensures ∙ c.byte_at.ensures) (c.from-long.ensures ∙ c.word_at.ensures) c.if-size-at-2.true

pub returns-else-size-at-2 : goal.returns-else-size-at-2
returns-else-size-at-2 c = ne_eqb _ _ c.if-size-at-2.false ∙ differs c.args.part.now c.args.at _ _ (c.from-key.ensures ∙ c.byte_at.ensures) (c.from-long.ensures ∙ c.word_at.ensures) c.if-size-at-2.false
