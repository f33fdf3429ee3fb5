-- `known_types::is_own` meets its contract: on each stretch of types that the match leaves, the tables say one thing. Assumes nothing.
use Rattle.std.proofs.Common.{true, false, [], ◌∷◌, refl, arith, rules}
use mathlib.Core.Logic.{⊎_elim}
use types.Run.{OneOf}
use Rattle.tapa.specs.Address.{psam, card, user_interface, merchant, data_store, communication, event}
use Rattle.known_types.specs.Types.{own}
use Rattle.known_types.proofs.Stretch.{stretch, stretch-but, at_key, none-own}
use Rattle.known_types.proofs.is_own.Goals as goal

pub returns-in-66-to-69 : goal.returns-in-66-to-69
unfolding own
returns-in-66-to-69 c = stretch psam true 0x42 4 tt c.args.kind c.in-0.is (omega arith) (omega arith)

pub returns-in-66-to-69-2 : goal.returns-in-66-to-69-2
unfolding own
returns-in-66-to-69-2 c = stretch psam true 0x47 2 tt c.args.kind c.in-0.is (omega arith) (omega arith)

pub returns-in_default-matches : goal.returns-in_default-matches
unfolding own
returns-in_default-matches c = stretch psam false 0x00 66 tt c.args.kind c.in-0.is (omega arith) (omega arith)

pub returns-in_default-matches-8 : goal.returns-in_default-matches-8
unfolding own
returns-in_default-matches-8 c = stretch psam false 0x46 1 tt c.args.kind c.in-0.is (omega arith) (omega arith)

pub returns-in_default-matches-9 : goal.returns-in_default-matches-9
unfolding own
returns-in_default-matches-9 c = stretch psam false 0x49 183 tt c.args.kind c.in-0.is (omega arith) (omega arith)

pub returns-in-64-to-71 : goal.returns-in-64-to-71
unfolding own
returns-in-64-to-71 c = stretch card true 0x40 8 tt c.args.kind c.in-2.is (omega arith) (omega arith)

pub returns-in_default-matches-2 : goal.returns-in_default-matches-2
unfolding own
returns-in_default-matches-2 c = stretch card false 0x00 64 tt c.args.kind c.in-2.is (omega arith) (omega arith)

pub returns-in_default-matches-2-2 : goal.returns-in_default-matches-2-2
unfolding own
returns-in_default-matches-2-2 c = stretch card false 0x48 184 tt c.args.kind c.in-2.is (omega arith) (omega arith)

pub returns-in_default-matches-3 : goal.returns-in_default-matches-3
unfolding own
returns-in_default-matches-3 c = stretch user_interface false 0x00 96 tt c.args.kind c.in-3.is (omega arith) (omega arith)

pub returns-in_default-matches-3-2 : goal.returns-in_default-matches-3-2
unfolding own
returns-in_default-matches-3-2 c = stretch user_interface false 0x62 1 tt c.args.kind c.in-3.is (omega arith) (omega arith)

pub returns-in_default-matches-3-3 : goal.returns-in_default-matches-3-3
unfolding own
returns-in_default-matches-3-3 c = stretch-but user_interface false (0x6C ∷ 0x80 ∷ 0x82 ∷ []) 0x6B 149 tt c.args.kind c.in-3.is (λ k. omega arith) (omega arith) (omega arith)

pub returns-in-96-to-97 : goal.returns-in-96-to-97
unfolding own
returns-in-96-to-97 c =
    let e = c.in-3.is in
    let k : OneOf (0x6C ∷ 0x80 ∷ 0x82 ∷ []) c.args.kind = search rules in
    ⊎_elim (λ k. at_key user_interface 0x6C e k refl) (⊎_elim (λ k. at_key user_interface 0x80 e k refl) (λ k. at_key user_interface 0x82 e k refl)) k

pub returns-in-96-to-97-2 : goal.returns-in-96-to-97-2
unfolding own
returns-in-96-to-97-2 c = stretch user_interface true 0x60 2 tt c.args.kind c.in-3.is (omega arith) (omega arith)

pub returns-in-96-to-97-3 : goal.returns-in-96-to-97-3
unfolding own
returns-in-96-to-97-3 c = stretch user_interface true 0x63 8 tt c.args.kind c.in-3.is (omega arith) (omega arith)

pub returns-in_default-matches-4 : goal.returns-in_default-matches-4
unfolding own
returns-in_default-matches-4 c = stretch-but merchant false (0x61 ∷ []) 0x00 99 tt c.args.kind c.in-4.is (λ k. omega arith) (omega arith) (omega arith)

pub returns-in_default-matches-4-2 : goal.returns-in_default-matches-4-2
unfolding own
returns-in_default-matches-4-2 c = stretch merchant false 0x65 27 tt c.args.kind c.in-4.is (omega arith) (omega arith)

pub returns-in_default-matches-4-3 : goal.returns-in_default-matches-4-3
unfolding own
returns-in_default-matches-4-3 c = stretch merchant false 0x83 125 tt c.args.kind c.in-4.is (omega arith) (omega arith)

pub returns-in-97 : goal.returns-in-97
unfolding own
returns-in-97 c = at_key merchant 0x61 c.in-4.is (omega arith) refl

pub returns-in-97-2 : goal.returns-in-97-2
unfolding own
returns-in-97-2 c = stretch merchant true 0x63 2 tt c.args.kind c.in-4.is (omega arith) (omega arith)

pub returns-in-97-3 : goal.returns-in-97-3
unfolding own
returns-in-97-3 c = stretch merchant true 0x80 3 tt c.args.kind c.in-4.is (omega arith) (omega arith)

pub returns-in-144-to-152 : goal.returns-in-144-to-152
unfolding own
returns-in-144-to-152 c = stretch data_store true 0x90 9 tt c.args.kind c.in-5.is (omega arith) (omega arith)

pub returns-in_default-matches-5 : goal.returns-in_default-matches-5
unfolding own
returns-in_default-matches-5 c = stretch data_store false 0x00 144 tt c.args.kind c.in-5.is (omega arith) (omega arith)

pub returns-in_default-matches-5-2 : goal.returns-in_default-matches-5-2
unfolding own
returns-in_default-matches-5-2 c = stretch data_store false 0x99 103 tt c.args.kind c.in-5.is (omega arith) (omega arith)

pub returns-in-176-to-177 : goal.returns-in-176-to-177
unfolding own
returns-in-176-to-177 c = stretch communication true 0xB0 2 tt c.args.kind c.in-6.is (omega arith) (omega arith)

pub returns-in_default-matches-6 : goal.returns-in_default-matches-6
unfolding own
returns-in_default-matches-6 c = stretch communication false 0x00 176 tt c.args.kind c.in-6.is (omega arith) (omega arith)

pub returns-in_default-matches-6-2 : goal.returns-in_default-matches-6-2
unfolding own
returns-in_default-matches-6-2 c = stretch communication false 0xB2 78 tt c.args.kind c.in-6.is (omega arith) (omega arith)

pub returns-in-192-to-195 : goal.returns-in-192-to-195
unfolding own
returns-in-192-to-195 c = stretch event true 0xC0 4 tt c.args.kind c.in-7.is (omega arith) (omega arith)

pub returns-in_default-matches-7 : goal.returns-in_default-matches-7
unfolding own
returns-in_default-matches-7 c = stretch event false 0x00 192 tt c.args.kind c.in-7.is (omega arith) (omega arith)

pub returns-in_default-matches-7-2 : goal.returns-in_default-matches-7-2
unfolding own
returns-in_default-matches-7-2 c = stretch event false 0xC4 60 tt c.args.kind c.in-7.is (omega arith) (omega arith)

pub returns-in_default : goal.returns-in_default
unfolding own
returns-in_default c = none-own c.args.category c.args.kind (λ e. omega arith) (λ e. omega arith) (λ e. omega arith) (λ e. omega arith) (λ e. omega arith) (λ e. omega arith) (λ e. omega arith)
