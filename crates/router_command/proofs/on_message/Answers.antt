-- The common checks in their order; the law gives the room for one place more, and is kept.
use Rattle.std.proofs.Common.{ℕ, Bool, List, ◌≡◌, sym, ap, ◌∙◌}
use Rattle.tapa.specs.Address.{handler_of}
use Rattle.tapa.specs.declared.Refusal.TheVariants.{NotInTable, ThreadAbove7, BufferTooSmall}
use Rattle.table.specs.Table.{listed, rows_of}
use Rattle.rules.specs.Judge.{message}
use Rattle.rules.proofs.Steps.{message-small, message-unread, message-unlisted, message-thread, message-kind}
use Rattle.routing.proofs.Law.{has_room, law-kept}
use Rattle.routing.proofs.Steps.{unstepped}
use Rattle.routing.proofs.Messages.{step-as}
use Rattle.router_command.proofs.on_message.Goals as goal

-- whether the source is listed, as the rules say it
told : (cells : List ℕ) (n source h : ℕ) (r b : Bool) → h ≡ handler_of source → r ≡ listed h (rows_of cells n) → r ≡ b
    → listed (handler_of source) (rows_of cells n) ≡ b
told cells n source h r b e f g = ap (λ (x : ℕ). listed x (rows_of cells n)) (sym e) ∙ sym f ∙ g

pub returns-then-reply-lt10-clause-on_message : goal.returns-then-reply-lt10-clause-on_message
returns-then-reply-lt10-clause-on_message c =
    let r = c.requires in
    unstepped _ _ r.held _ _ r.column _ _ BufferTooSmall _ c.refuse.ensures (message-small _ _ _ c.if-reply-lt10.true)

pub returns-then-not-is_listed-clause-on_message : goal.returns-then-not-is_listed-clause-on_message
returns-then-not-is_listed-clause-on_message c =
    let r = c.requires in
    unstepped _ _ r.held _ _ r.column _ _ NotInTable _ c.refuse-then-not-is_listed.ensures
    (message-unlisted _ _ _ c.if-reply-lt10.false _ c.read.ensures _ c.in-Ok.is (told _ _ _ _ _ _ c.handler.ensures c.is_listed.ensures c.if-not-is_listed.true))

pub returns-then-head-gt7-clause-on_message : goal.returns-then-head-gt7-clause-on_message
returns-then-head-gt7-clause-on_message c =
    let r = c.requires in
    unstepped _ _ r.held _ _ r.column _ _ ThreadAbove7 _ c.refuse-then-head-gt7.ensures
    (message-thread _ _ _ c.if-reply-lt10.false _ c.read.ensures _ c.in-Ok.is (told _ _ _ _ _ _ c.handler.ensures c.is_listed.ensures c.if-not-is_listed.false) c.if-head-gt7.true)

pub on_type-requires-clause-len_bound : goal.on_type-requires-clause-len_bound
on_type-requires-clause-len_bound c = has_room c.args.cells.now c.args.count c.args.list.now c.args.len c.requires

pub returns-in-Err-clause-on_message : goal.returns-in-Err-clause-on_message
returns-in-Err-clause-on_message c =
    let r = c.requires in
    unstepped _ _ r.held _ _ r.column _ _ _ _ c.refuse-in-Err.ensures
    (message-unread _ _ _ c.if-reply-lt10.false _ c.read.ensures _ c.in-Err.is)

pub returns-clause-on_message : goal.returns-clause-on_message
returns-clause-on_message c =
    step-as _ _ _ _ _ _ _ _ _
    (message-kind _ _ _ c.if-reply-lt10.false _ c.read.ensures _ c.in-Ok.is (told _ _ _ _ _ _ c.handler.ensures c.is_listed.ensures c.if-not-is_listed.false) c.if-head-gt7.false)
    c.on_type.ensures

pub returns-clause-lawful : goal.returns-clause-lawful
returns-clause-lawful c =
    law-kept _ _ _ _ c.requires _ (message c.args.message.now) _ _ _ (returns-clause-on_message c).moving
