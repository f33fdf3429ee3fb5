-- Routing one message, rule b: 'type not in Tables 4 to 6 for the asked category'.
-- The rows are those of the tables, type by type, but for card '48', which the page leaves out; types that are in for all stand apart.
-- docs/DECISIONS.md has the cells that were in doubt.
use Rattle.std.specs.Prelude.{ℕ, Bool, ◌&&◌, ◌||◌, List, [], ◌∷◌, ◌++◌, eqb, leb}
use Rattle.lists.specs.Lists.{some_of}
use Rattle.tapa.specs.Address.{psam, card, user_interface, merchant, data_store, communication, event}

-- a type, and the categories whose handlers know it
pub record TypeRow : Type 0 where
  pub kind : ℕ
  pub categories : List ℕ

abbrev pub row : ℕ → List ℕ → TypeRow
row k cs = record { kind = k; categories = cs }

-- Table 4: Terminal Messages, Handlers 0-2
abbrev pub table4 : List TypeRow
table4 =
    row 0x40 (card ∷ [])  -- Read Magnetic Stripe
    ∷ row 0x41 (card ∷ [])  -- Write Magnetic Stripe
    ∷ row 0x42 (psam ∷ card ∷ [])  -- ICC Command
    ∷ row 0x43 (psam ∷ card ∷ [])  -- ICC Power-On
    ∷ row 0x44 (psam ∷ card ∷ [])  -- ICC Power-Off
    ∷ row 0x45 (psam ∷ card ∷ [])  -- ICC Query
    ∷ row 0x46 (card ∷ [])  -- Verify Offline PIN
    ∷ row 0x47 (psam ∷ card ∷ [])  -- ICC Command partially encrypted
    ∷ row 0x48 (psam ∷ [])  -- ICC Command fully encrypted (for card the page has '40' to '47')
    ∷ []

-- Table 5: Terminal Messages, Handlers 3-5
abbrev pub table5 : List TypeRow
table5 =
    row 0x60 (user_interface ∷ [])  -- Confirm Amount
    ∷ row 0x61 (user_interface ∷ merchant ∷ [])  -- Display Message
    ∷ row 0x63 (user_interface ∷ merchant ∷ [])  -- Print Message
    ∷ row 0x64 (user_interface ∷ merchant ∷ [])  -- Purge Print Buffer
    ∷ row 0x65 (user_interface ∷ [])  -- Get Key Check Value
    ∷ row 0x66 (user_interface ∷ [])  -- Verify PSAM Public Key Certificate
    ∷ row 0x67 (user_interface ∷ [])  -- Get PIN Pad Public Key Record
    ∷ row 0x68 (user_interface ∷ [])  -- Submit Initial Key
    ∷ row 0x69 (user_interface ∷ [])  -- Initiate PIN Entry
    ∷ row 0x6A (user_interface ∷ [])  -- Get PIN
    ∷ row 0x6C (user_interface ∷ [])  -- Terminate PIN Entry
    ∷ row 0x80 (user_interface ∷ merchant ∷ [])  -- Get Amount
    ∷ row 0x81 (merchant ∷ [])  -- Transaction Completed
    ∷ row 0x82 (user_interface ∷ merchant ∷ [])  -- Funds Available
    ∷ row 0x90 (data_store ∷ [])  -- Create File
    ∷ row 0x91 (data_store ∷ [])  -- Delete File
    ∷ row 0x92 (data_store ∷ [])  -- Add File Record
    ∷ row 0x93 (data_store ∷ [])  -- Get File Record
    ∷ row 0x94 (data_store ∷ [])  -- Update File Record
    ∷ row 0x95 (data_store ∷ [])  -- Find and Get File Record
    ∷ row 0x96 (data_store ∷ [])  -- Delete File Record
    ∷ row 0x97 (data_store ∷ [])  -- Find and Delete File Record
    ∷ row 0x98 (data_store ∷ [])  -- Clear File
    ∷ []

-- Table 6: Terminal Messages, Handler 6-7
abbrev pub table6 : List TypeRow
table6 =
    row 0xB0 (communication ∷ [])  -- Initiate Communication Session
    ∷ row 0xB1 (communication ∷ [])  -- Terminate Communication Session
    ∷ row 0xC0 (event ∷ [])  -- Add Event to Queue
    ∷ row 0xC1 (event ∷ [])  -- Get Event from Queue
    ∷ row 0xC2 (event ∷ [])  -- Find Event on Queue
    ∷ row 0xC3 (event ∷ [])  -- Flush Event Queue
    ∷ []

-- 'handler-independent types are in for all' (section 4.4)
abbrev pub independent : List ℕ
independent =
    0xF0  -- Open Handler
    ∷ 0xF1  -- Close Handler
    ∷ 0xF3  -- Write Handler String
    ∷ 0xF4  -- Read Handler String
    ∷ 0xF5  -- Get Handler Addresses
    ∷ []

unfoldable pub common : ℕ → Bool
common kind = some_of (λ (k : ℕ). eqb k kind) independent

-- a row that names both the category and the type
abbrev pub names : ℕ → ℕ → TypeRow → Bool
names category kind r = some_of (λ (c : ℕ). eqb c category) r.categories && eqb r.kind kind

unfoldable pub own : ℕ → ℕ → Bool
own category kind = some_of (names category kind) (table4 ++ (table5 ++ table6))

-- whether handlers of a category know a type; the categories are 0 to 7
abbrev pub known : ℕ → ℕ → Bool
known category kind = own category kind || leb category event && common kind
