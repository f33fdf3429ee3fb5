-- Marks: 'each response bears a mark unseen by the router: the number of the earlier passed command it replies to'.
use Rattle.std.specs.Prelude.{ℕ, ◌≡◌, Bool, true, false, ◌&&◌, ◌||◌, List, [], ◌∷◌, eqb, ltb, length}
use Rattle.lists.specs.Lists.{In}
use Rattle.place.specs.declared.Place.{Place}
use Rattle.places.specs.Places.{on_thread, asks}
use Rattle.rules.specs.declared.Outcome.{Outcome}
use Rattle.history.specs.History.{Entry, Each, is_answered, is_swallowed, is_reset, named, Sent, sent, ended}

-- exactly this address is asked on this thread, by a command that may be open, owed or done with
abbrev pub addressed : ℕ → ℕ → Place → Bool
addressed a t p = eqb p.asked a && on_thread t p

-- a response that was not refused
abbrev pub is_reply : Outcome → Bool
is_reply o = is_answered o || is_swallowed o

-- 'whose exact asked address and thread are the response's source and thread'
abbrev pub fits : Outcome → Place → Bool
fits o p = addressed (named o).asked (named o).thread p

-- an accepted replaced call of the handler that a command asks
abbrev pub replaces : Outcome → Place → Bool
replaces o p = is_reset o && asks (named o).asked p

-- such a call stands after the command's own entry
abbrev pub replaced_since : List Entry → Sent → Bool
replaced_since [] c = false
replaced_since (e ∷ h) c = ltb c.no (length h) && replaces e.outcome c.command || replaced_since h c

-- `mark n` is what the response of the entry with the number n bears
module _ (mark : ℕ → ℕ) where
  -- the mark m stands on a response that was not refused
  abbrev pub used : List Entry → ℕ → Bool
  used [] m = false
  used (e ∷ h) m = is_reply e.outcome && eqb (mark (length h)) m || used h m

  -- what the three premises ask of a response with the outcome o, after h, and of the passed command that its mark names

  -- 'whose exact asked address and thread are the response's source and thread'
  abbrev pub Addressed : List Entry → Outcome → Sent → Type 0
  Addressed h o c = fits o c.command ≡ true

  -- 'No mark stands on two responses that were not refused'
  abbrev pub Unused : List Entry → Outcome → Sent → Type 0
  Unused h o c = used h c.no ≡ false

  -- 'after an accepted replaced call none stands for a command passed to that handler before it'
  abbrev pub Unreplaced : List Entry → Outcome → Sent → Type 0
  Unreplaced h o c = replaced_since h c ≡ false

  abbrev pub AllThree : List Entry → Outcome → Sent → Type 0
  AllThree h o c = Addressed h o c × Unused h o c × Unreplaced h o c

  -- 'the number of the earlier passed command it replies to', and that command meets P
  pub record Marked (P : List Entry → Outcome → Sent → Type 0) (h : List Entry) (o : Outcome) : Type 0 where
    pub of-it : Sent
    pub numbered : of-it.no ≡ mark (length h)
    pub passed-before : In of-it (sent h)
    pub meets : P h o of-it

  -- every response that was not refused bears such a mark
  abbrev pub HonestBy : (P : List Entry → Outcome → Sent → Type 0) → List Entry → Type 0
  HonestBy P h = Each (λ older e. is_reply e.outcome ≡ true → Marked P older e.outcome) h

  abbrev pub Honest : List Entry → Type 0
  Honest h = HonestBy AllThree h

  -- 'an answered or swallowed response bears the mark of the wait or owing it ends'
  abbrev pub Bears : List Entry → Outcome → Type 0
  Bears h o = is_reply o ≡ true → (c : Sent) × (ended h o ≡ c ∷ []) × (c.no ≡ mark (length h))
