-- What a command of the code answers: what it did, or the response code under which it changed nothing.
use Rattle.std.specs.Prelude.{ℕ, cond, ◌++◌, List, ◌≡◌, eqb, Result, Ok, Err}
use Rattle.tapa.specs.Codes.{successful}
use Rattle.tapa.specs.Numbers.{two_bytes}

abbrev pub Coded : Type 0 → Type 0
Coded A = Result A ℕ

-- the response code
abbrev pub result_code : {A : Type 0} → Result A ℕ → ℕ
result_code (Ok a) = successful
result_code (Err n) = n

-- a command that failed has another code than '0000'
abbrev pub Refused : {A : Type 0} → Result A ℕ → Type 0
Refused (Ok a) = Unit
Refused (Err n) = n ≡ successful → ⊥

-- what there is afterwards: from what it did, or what there was before
abbrev pub left_by : {A B : Type 0} → (A → B) → B → Result A ℕ → B
left_by f b (Ok a) = f a
left_by f b (Err n) = b

abbrev pub left_in : {A : Type 0} → A → Result A ℕ → A
left_in b r = left_by (λ a. a) b r

-- checks that came to this code
abbrev pub passing : ℕ → Result (Unit {0}) ℕ
passing n = cond (eqb n successful) (Ok tt) (Err n)

-- the response's data: fields of what it did before the code '0000', or the code alone
abbrev pub answered : {A : Type 0} → (A → List ℕ) → Result A ℕ → List ℕ
answered fields (Ok a) = fields a ++ two_bytes successful
answered fields (Err n) = two_bytes n
