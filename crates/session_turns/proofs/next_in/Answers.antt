-- Each arm hands out the first item that is left.
use Rattle.std.proofs.Common.{◌∙◌, refl, sym, ap, arith}
use Rattle.run.specs.declared.Totals.{Totals}
use Rattle.run.specs.declared.Went.{Went}
use Rattle.run.specs.declared.Item.TheVariants.{Over}
use Rattle.run.specs.State.{ended_in, session_of, turn_of}
use Rattle.run.proofs.Turns.{inside_of, on_step, on-last, small-totals, on-settled}
use Rattle.session_turns.proofs.next_in.Goals as goal

pub on_message-requires : goal.on_message-requires
on_message-requires c =
    let a = c.args in
    let b = inside_of a.input.now (session_of a.cells.now a.count a.list.now a.len a.cursor) c.requires _ (sym c.in-Message.ensures) in
    record { ready = c.requires; start_le_end = (b.1, b.2) }

pub returns-in-Message : goal.returns-in-Message
returns-in-Message c =
    let a = c.args in
    let r = session_of a.cells.now a.count a.list.now a.len a.cursor in
    let e = sym c.in-Message.ensures in
    let b = inside_of a.input.now r c.requires _ e in
    on_step a.input.now r c.requires _ e _ _ _ refl (omega (arith, b.0, b.1)) b.3 c.on_message.ensures

pub returns-in-GiveUp : goal.returns-in-GiveUp
returns-in-GiveUp c =
    let a = c.args in
    let r = session_of a.cells.now a.count a.list.now a.len a.cursor in
    let e = sym c.in-GiveUp.ensures in
    let b = inside_of a.input.now r c.requires _ e in
    on_step a.input.now r c.requires _ e _ _ _ refl b.0 b.1 c.on_give_up.ensures

pub returns-in-Replaced : goal.returns-in-Replaced
returns-in-Replaced c =
    let a = c.args in
    let r = session_of a.cells.now a.count a.list.now a.len a.cursor in
    let e = sym c.in-Replaced.ensures in
    let b = inside_of a.input.now r c.requires _ e in
    on_step a.input.now r c.requires _ e _ _ _ refl b.0 b.1 c.on_replaced.ensures

pub returns-in-Over : goal.returns-in-Over
returns-in-Over c =
    let a = c.args in
    let r = session_of a.cells.now a.count a.list.now a.len a.cursor in
    let e = sym c.in-Over.ensures in
    on-last a.input.now r c.requires _ e _ _ refl (small-totals r c.requires) refl
    (ap (λ (w : Went). turn_of w a.cells.now a.count a.list.now) c.ended.ensures
    ∙ ap (λ (x : Totals). ended_in r (Over x)) c.sum_up-sums.ensures)

pub returns-in-Last : goal.returns-in-Last
returns-in-Last c =
    let a = c.args in
    let r = session_of a.cells.now a.count a.list.now a.len a.cursor in
    on-settled a.input.now r c.requires _ _ (sym c.in-Last.ensures)
    (ap (λ (w : Went). turn_of w a.cells.now a.count a.list.now) c.ended-in-Last.ensures)
