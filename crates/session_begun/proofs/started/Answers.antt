-- What the start answers decides.
use Rattle.std.proofs.Common.{◌≡◌, Ok, Err, ◌∙◌}
use Rattle.router.specs.declared.Router.{Router}
use Rattle.run.specs.declared.Cursor.{Cursor}
use Rattle.run.specs.declared.Session.{Session}
use Rattle.run.proofs.Rows.{starts}
use Rattle.session_begun.proofs.started.Goals as goal

-- a session is its cursor and its router
session : (s : Session) (c : Cursor) (r : Router) → s.cursor ≡ c → s.router ≡ r → s ≡ record { cursor = c; router = r }
session s c r e f = λ i. record { cursor = e i; router = f i }

pub returns-in-Ok : goal.returns-in-Ok
returns-in-Ok c =
    session _ _ _ c.after_rows.ensures.cursor c.after_rows.ensures.router
    ∙ starts c.args.heading (Ok c.in-Ok.router) c.in-Ok.ensures

pub returns-in-Err : goal.returns-in-Err
returns-in-Err c =
    session _ _ _ c.after_rows-in-Err.ensures.cursor (c.after_rows-in-Err.ensures.router ∙ c.blank.ensures)
    ∙ starts c.args.heading (Err c.in-Err.refusal) c.in-Err.ensures
