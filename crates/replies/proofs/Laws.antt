-- Laws of a reply: when it fits, and what is said of it.
use Prim.Native.Nat.{ℕ, ◌+◌, ◌≤◌}
use Rattle.tapa.specs.declared.Refusal.{Refusal}
use Rattle.std.specs.Prelude.{Option, Result, Ok, Some}
use mathlib.Core.Path.{◌≡◌, ◌∙◌}
use mathlib.Core.List.{List, [], ◌∷◌}
use lib.Dec.{ltb}
use lib.ListN.{length}
use Rattle.lists.specs.Lists.{checks}
use Rattle.lists.proofs.Tests.{checks-said}
use Rattle.tapa.specs.Said.{Said, refused, says, reply}
use Rattle.message.specs.declared.Head.{Head}
use Rattle.message.specs.Message.{write_checks, writing_of}
use Rattle.message.proofs.Laws.{writes}
use Rattle.replies.specs.Replies.{Answers, Replies, answer_after}
use Rattle.replies.specs.Said.{said_answer}

-- data of at most 1,024 bytes, in a buffer that takes them: the answer is the reply's length
pub fitting : (h : Head) (part before after : List ℕ) (a : Result (Option ℕ) Refusal) → length part ≤ 1024 → 8 + length part ≤ length before
    → Replies h part before after a → Answers h (Some part) before after a
fitting h part before after a few room r =
    let w = writes part before few room in
    record { answer = r.answer ∙ rw w; reply = r.reply ∙ rw w }

-- 2, 9, in this order; else the reply's length
pub said-reply : (part before : List ℕ) → said_answer (answer_after (writing_of part before))
    ≡ checks ((ltb 1024 (length part), refused 2) ∷ (ltb (length before) (8 + length part), refused 9) ∷ []) (says reply ((8 + length part) ∷ []))
unfolding writing_of
said-reply part before = checks-said said (write_checks part before) (Ok (8 + length part))
  where
    said : Result ℕ Refusal → Said
    said w = said_answer (answer_after w)
