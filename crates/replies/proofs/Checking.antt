-- Laws of what a part checks of a message: the numbers in their order, and the room that is left for a reply.
use Prim.Native.Nat.{ℕ, ◌+◌, ◌≤◌}
use Rattle.std.specs.Prelude.{Result, Ok, Err}
use mathlib.Core.Path.{◌≡◌, refl, ap, ◌∙◌}
use mathlib.Core.Bool.{Bool, true, false, cond}
use mathlib.Core.List.{List, [], ◌∷◌}
use lib.Dec.{ltb}
use lib.ListN.{length, get_or}
use borrow.Author.Tests.{ltb-false}
use Rattle.lists.specs.Lists.{checks}
use Rattle.lists.proofs.Tests.{checks-said, differ}
use Rattle.tapa.specs.Numbers.{word_at}
use Rattle.tapa.specs.Said.{refused, says, read}
use Rattle.tapa.specs.declared.Refusal.{Refusal}
use Rattle.tapa.specs.declared.Refusal.TheVariants.{TooShort, TooLong, FewerThanAnnounced, MoreThanAnnounced, BufferTooSmall, NotThisPartsMessage}
use Rattle.message.specs.declared.Head.{Head}
use Rattle.message.specs.Message.{head_of, read_of}
use Rattle.message.proofs.Laws.{through-reading}
use Rattle.replies.specs.Checked.{well_read, room_checks, opened, own_checks, owned}
use Rattle.replies.specs.Said.{said_checked}

-- where a check's refusal did not come out, its test failed
not-failed : (b : Bool) (r : Refusal) (rest : Result Head Refusal) (h : Head) (elsewhere : Head → Bool) → owned elsewhere (cond b (Err r) rest) ≡ Ok h → b ≡ false
not-failed true r rest h elsewhere e = differ (cc)
not-failed false r rest h elsewhere e = refl

-- a message that passed came with a buffer that is large enough
pub passed-room : (elsewhere : Head → Bool) (least room : ℕ) (message : List ℕ) (h : Head) → owned elsewhere (opened least room message) ≡ Ok h → least ≤ room
passed-room elsewhere least room message h e = ltb-false room least (not-failed (ltb room least) _ _ h elsewhere e)

module _ (elsewhere : Head → Bool) (least room : ℕ) (s : List ℕ) where
  -- the tests in their order, whatever is made of the outcomes
  pub through-checking : {A : Type 0} (f : Result Head Refusal → A) → f (owned elsewhere (opened least room s))
      ≡ checks
      ((ltb room least, f (Err BufferTooSmall))
      ∷ (ltb (length s) 8, f (Err TooShort))
      ∷ (ltb 1024 (word_at s 6), f (Err TooLong))
      ∷ (ltb (length s) (8 + word_at s 6), f (Err FewerThanAnnounced))
      ∷ (ltb (8 + word_at s 6) (length s), f (Err MoreThanAnnounced))
      ∷ (elsewhere (head_of s), f (Err NotThisPartsMessage))
      ∷ [])
      (f (Ok (head_of s)))
  through-checking {A} f =
      checks-said g (room_checks least room) (well_read (read_of s))
      ∙ ap (cond (ltb room least) (f (Err BufferTooSmall)))
      (through-reading (λ (r : Result Head Refusal). g (well_read r)) _ s (checks-said f (own_checks elsewhere (head_of s)) (Ok (head_of s))))
    where
      g : Result Head Refusal → A
      g c = f (owned elsewhere c)

  -- 9, 1, 2, 3, 19, 15, in this order; else the message's fields
  pub said-checked : said_checked (owned elsewhere (opened least room s))
      ≡ checks
      ((ltb room least, refused 9)
      ∷ (ltb (length s) 8, refused 1)
      ∷ (ltb 1024 (word_at s 6), refused 2)
      ∷ (ltb (length s) (8 + word_at s 6), refused 3)
      ∷ (ltb (8 + word_at s 6) (length s), refused 19)
      ∷ (elsewhere (head_of s), refused 15)
      ∷ [])
      (says read (word_at s 0 ∷ word_at s 2 ∷ get_or s 4 0 ∷ get_or s 5 0 ∷ word_at s 6 ∷ []))
  said-checked = through-checking said_checked
