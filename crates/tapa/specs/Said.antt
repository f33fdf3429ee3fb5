-- 'When an answer is an enum, a definition states this paper's number and values for each of its cases.'
-- Each room says so of its own answers, in these words.
use Rattle.std.specs.Prelude.{ℕ, Bool, true, false, List, eqb}

-- the page's words for what is no refusal
pub data Word : Type 0 where
  -- the message
  read code written : Word
  -- the table of handlers
  accepted : Word
  -- routing one message
  passed answered swallowed event turned given reset : Word
  -- the event queue
  reply no_reply : Word
  -- towards and from the PSAM
  cutting command done get_next joined kept : Word

-- a refusal's number, or a word with its values
pub data Said : Type 0 where
  refused : (number : ℕ) → Said
  says : Word → (values : List ℕ) → Said

-- each word's place in that list: two words are one where their places are
abbrev pub rank : Word → ℕ
rank read = 0
rank code = 1
rank written = 2
rank accepted = 3
rank passed = 4
rank answered = 5
rank swallowed = 6
rank event = 7
rank turned = 8
rank given = 9
rank reset = 10
rank reply = 11
rank no_reply = 12
rank cutting = 13
rank command = 14
rank done = 15
rank get_next = 16
rank joined = 17
rank kept = 18

-- ---- tests on what is said

abbrev pub has_word : Word → Said → Bool
has_word w (refused number) = false
has_word w (says u values) = eqb (rank w) (rank u)

abbrev pub is_refusal : Said → Bool
is_refusal (refused number) = true
is_refusal (says w values) = false
