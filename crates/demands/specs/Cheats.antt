-- How far each contract reaches: what demands 2 and 3 stop. Each is a build as one sees it from outside, by its signature alone.
use Rattle.std.specs.Prelude.{ℕ, ◌≡◌, List, [], ◌∷◌, length, replicate}
use Rattle.tapa.specs.declared.Refusal.{Refusal}
use Rattle.places.specs.Places.{waits}
use Rattle.rules.specs.declared.Outcome.{Outcome}
use Rattle.rules.specs.declared.Outcome.TheVariants.{Refused}
use Rattle.rules.specs.Judge.{judge_message}
use Rattle.router.specs.declared.Router.{Router}
use Rattle.router.specs.declared.Routed.{Routed}
use Rattle.router.specs.Router.{view_of, Lawful, Routing}
use Rattle.transcript.specs.Prescribed.{prescribed}
use Rattle.demands.specs.Used.{Fresh}

-- ---- builds of `route`

-- what a build's routing leaves behind: the outcome with the next state, and the reply buffer
pub record Left : Type 0 where
  pub routed : Routed
  pub reply : List ℕ

-- a build: what its routing leaves of a state, a message and a buffer
abbrev pub Build : Type 0
Build = Router → List ℕ → List ℕ → Left

-- it meets the contract of `route`
abbrev pub Meets : Build → Type 0
Meets b = (r : Router) → Lawful r → (s buffer : List ℕ)
    → Routing (judge_message (view_of r) (length buffer) s) r buffer (b r s buffer).reply (b r s buffer).routed

-- 'a build that refuses everything'
abbrev pub RefusesAll : Build → Type 0
RefusesAll b = (r : Router) → Lawful r → (s buffer : List ℕ) → (k : Refusal) × ((b r s buffer).routed.outcome ≡ Refused k)

-- one that 'gives one outcome only'
abbrev pub OneOutcome : Build → Type 0
OneOutcome b = (o : Outcome) × ((r : Router) → Lawful r → (s buffer : List ℕ) → (b r s buffer).routed.outcome ≡ o)

-- one that 'does nothing (a passed message becomes a wait)': no message leaves other waits behind
abbrev pub DoesNothing : Build → Type 0
DoesNothing b = (r : Router) → Lawful r → (s buffer : List ℕ) → waits (view_of (b r s buffer).routed.next).places ≡ waits (view_of r).places

-- a reply buffer
abbrev pub ten : List ℕ
ten = replicate 10 0

-- the state after some messages, the first one first
abbrev pub after : Build → Router → List (List ℕ) → Router
after b r [] = r
after b r (s ∷ more) = after b (b r s ten).routed.next more

-- one that 'routes the first message and then echoes', whatever it echoes: what comes of a later message is made of the first message and of
-- itself; what came between does not show
abbrev pub Echoes : Build → Type 0
Echoes b = (echo : Router → (first last : List ℕ) → Outcome)
    × ((r : Router) → Fresh r → (first : List ℕ) (between : List (List ℕ)) (last : List ℕ) → (b (after b r (first ∷ between)) last ten).routed.outcome ≡ echo r first last)

-- ---- builds of the session program

-- a build: the lines that it prints of an input
abbrev pub Printing : Type 0
Printing = List ℕ → List (List ℕ)

-- it meets the session's promise
abbrev pub Prints : Printing → Type 0
Prints p = (input : List ℕ) → p input ≡ prescribed input

abbrev pub last_of : List (List ℕ) → List ℕ
last_of [] = []
last_of (l ∷ []) = l
last_of (l ∷ m ∷ more) = last_of (m ∷ more)

-- one with 'made-up totals': its last line is made of how long the input is and of how many lines there are, not of what came of the calls
abbrev pub MadeUp : Printing → Type 0
MadeUp p = (made : (size lines : ℕ) → List ℕ) × ((input : List ℕ) → last_of (p input) ≡ made (length input) (length (p input)))
