-- Each return is one answer, with its count and its buffer.
use Rattle.std.proofs.Common.{◌≡◌, refl, arith, rules, sym, ap, ◌∙◌}
use Rattle.std.specs.Prelude.{Ok, Err}
use Rattle.joiner.proofs.Laws.{joins-small, joins-none, joins-more, joins-last, taken-some}
use Rattle.psam_pieces.proofs.join_in.Goals as goal

pub returns-then-buffer-lt1032 : goal.returns-then-buffer-lt1032
returns-then-buffer-lt1032 c = joins-small c.args.joiner.now c.args.piece.now c.args.buffer.now c.if-buffer-lt1032.true

pub returns-in_err-taken : goal.returns-in_err-taken
returns-in_err-taken c =
    let a = c.args in
    let e : c.from_residual.result ≡ Err c.in_err-taken.field-0.0 = search rules in
    rw e (joins-none a.joiner.now a.piece.now a.buffer.now c.if-buffer-lt1032.false _ _ (sym c.check_piece.ensures ∙ c.in_err-taken.was) refl)

pub add_piece-m-requires-clause-in_bounds : goal.add_piece-m-requires-clause-in_bounds
add_piece-m-requires-clause-in_bounds c = (taken-some c.args.joiner.now.joined c.args.piece.now _ (sym c.check_piece.ensures ∙ c.in_ok-taken.was)).two

pub add_piece-m-requires-clause-piece_in_bounds : goal.add_piece-m-requires-clause-piece_in_bounds
add_piece-m-requires-clause-piece_in_bounds c =
    omega (arith, (taken-some c.args.joiner.now.joined c.args.piece.now _ (sym c.check_piece.ensures ∙ c.in_ok-taken.was)).fits)

pub finish-requires : goal.finish-requires
finish-requires c = (
  omega (arith, (taken-some c.args.joiner.now.joined c.args.piece.now _ (sym c.check_piece.ensures ∙ c.in_ok-taken.was)).fits, c.add_piece-m.ensures.0),
  omega arith,
)

pub returns-in-NotLast : goal.returns-in-NotLast
returns-in-NotLast c =
    let a = c.args in
    let m = c.add_piece-m.ensures in
    joins-more a.joiner.now a.piece.now a.buffer.now c.if-buffer-lt1032.false _ _ _ (sym c.check_piece.ensures ∙ c.in_ok-taken.was ∙ ap Ok c.in-NotLast.is) m.0 refl m.1

pub returns-in-Last : goal.returns-in-Last
returns-in-Last c =
    let a = c.args in
    let m = c.add_piece-m.ensures in
    joins-last a.joiner.now a.piece.now a.buffer.now c.if-buffer-lt1032.false _ _ _ _ _ (sym c.check_piece.ensures ∙ c.in_ok-taken.was ∙ ap Ok c.in-Last.is) m.0 refl m.1
    c.finish.ensures.0
    c.finish.ensures.1
