-- No wait asks the address, or its handler holds a question, or it is a leaf.
use Rattle.std.proofs.Common.{rules, arith, sym, ◌∙◌, take}
use Rattle.std.proofs.lemmas.Iterator.{YieldsList-from_slice}
use Rattle.std.proofs.lemmas.Iterator.Search.{any_from_yields_List}
use Rattle.lists.proofs.Walks.{newest, some-any}
use Rattle.places.specs.Places.{unpack, asks_exactly, holds_on}
use Rattle.places.proofs.Leaves.{missing-is, holds-is, leaf-is}
use Rattle.router_walks.proofs.leaf_at.Goals as goal

pub returns-in_default : goal.returns-in_default
returns-in_default c =
    let a = c.args in
    let u = c.rposition.ensures.runs.0 in
    let e = newest unpack (asks_exactly a.asked a.thread) a.list.now a.n _ (omega arith) (search rules) (λ x b k. search rules) u _ (c.iter.ensures.runs_back u u.seen) (search rules) _ (search rules) _ c.rposition.ensures.bound c.rposition.ensures.runs.2 in
    missing-is _ _ _ (sym c.in_default.is ∙ e)

pub returns-then-any : goal.returns-then-any
returns-then-any c =
    let a = c.args in
    let u = c.rposition.ensures.runs.0 in
    let e = newest unpack (asks_exactly a.asked a.thread) a.list.now a.n _ (omega arith) (search rules) (λ x b k. search rules) u _ (c.iter.ensures.runs_back u u.seen) (search rules) _ (search rules) _ c.rposition.ensures.bound c.rposition.ensures.runs.2 in
    let holds = any_from_yields_List (λ x. holds_on a.thread c.handler-handler.result (unpack x)) _ _ _ c.any.ensures.ran (YieldsList-from_slice (take a.n a.list.now) (search rules)) (λ x b q k. search rules)
    ∙ some-any unpack (holds_on a.thread c.handler-handler.result) a.list.now a.n (omega arith) in
    holds-is _ _ _ _ _ _ c.handler-handler.ensures (sym c.in-Some.is ∙ e) holds c.if-any.true

pub returns : goal.returns
returns c =
    let a = c.args in
    let u = c.rposition.ensures.runs.0 in
    let e = newest unpack (asks_exactly a.asked a.thread) a.list.now a.n _ (omega arith) (search rules) (λ x b k. search rules) u _ (c.iter.ensures.runs_back u u.seen) (search rules) _ (search rules) _ c.rposition.ensures.bound c.rposition.ensures.runs.2 in
    let holds = any_from_yields_List (λ x. holds_on a.thread c.handler-handler.result (unpack x)) _ _ _ c.any.ensures.ran (YieldsList-from_slice (take a.n a.list.now) (search rules)) (λ x b q k. search rules)
    ∙ some-any unpack (holds_on a.thread c.handler-handler.result) a.list.now a.n (omega arith) in
    leaf-is _ _ _ _ _ _ c.handler-handler.ensures (sym c.in-Some.is ∙ e) holds c.if-any.false
