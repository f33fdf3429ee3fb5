-- The three demands in one record: what an outsider opens first. proofs/Demands.antt has it as one theorem.
use Rattle.std.specs.Prelude.{ℕ, ◌≡◌, List, Result, Ok}
use Rattle.tapa.specs.declared.Refusal.{Refusal}
use Rattle.table.specs.declared.Row.{Row}
use Rattle.table.specs.declared.Rows.{Rows}
use Rattle.table.specs.Table.{Held}
use Rattle.setup.specs.declared.Accepted.{Accepted}
use Rattle.setup.specs.Setup.{Settled}
use Rattle.router.specs.declared.Router.{Router}
use Rattle.router.specs.Router.{view_of, Lawful}
use Rattle.start.specs.Start.{blank, started, start_with, start_of, router_left}
use Rattle.history.specs.Admitted.{Admitted}
use Rattle.history.specs.History.{Entry}
use Rattle.history.specs.Marks.{Honest}
use Rattle.history.specs.Opening.{rows_in}
use Rattle.history.specs.Promise.{EachBears, Promise, Bounded}
use Rattle.history.specs.Needed.{Needed}
use Rattle.queue.specs.declared.Queue.{Queue}
use Rattle.demands.specs.One.{OneResult}
use Rattle.demands.specs.Refusing.{Refusing}
use Rattle.demands.specs.Carrying.{Carrying}
use Rattle.demands.specs.Queued.{AsEvents, Flushing, Queued}
use Rattle.demands.specs.Desk.{Desk}
use Rattle.demands.specs.Cheats.{Build, Meets, RefusesAll, OneOutcome, DoesNothing, Echoes, Printing, Prints, MadeUp}
use Rattle.book.specs.declared.Book.{Book}
use Rattle.demands.specs.Lasting.{Lasting, Outlives}
use Rattle.demands.specs.Stored.{AsFiles, Exchange, Stored}
use Rattle.demands.specs.Used.{Fresh, Used}

-- demand 3 of one run of the code: 'the law shown of every state', what every history shows (no Add Event and no response is ever passed, among it),
-- its bound, the open marks that it leaves, and the marks of the devices
pub record Kept (first : Router) (h : List Entry) (r : Router) : Type 0 where
  pub law : Lawful r
  pub promise : Promise h (view_of r)
  pub bound : Bounded (view_of first).rows h (view_of r)
  pub opened : (view_of r).rows ≡ rows_in (view_of first).rows h
  pub marks : (mark : ℕ → ℕ) → Honest mark h → EachBears mark h

pub record Demands : Type 0 where
  -- 1. Every message, table and call has one outcome. (Equations leave one value: `equations` of proofs/One.antt.)
  pub one-result : OneResult
  -- A refusal has its number in the page's table, and changes nothing but what the page says, for every call
  pub refusing : Refusing
  -- 2. The sums at the desk; and no build meets the contracts that 'refuses everything, gives one outcome only .. or does nothing', 'routes the
  -- first message and then echoes', or has 'made_up totals'
  pub sums : Desk
  pub refuses-all : (b : Build) → Meets b → RefusesAll b → ⊥
  pub one-outcome : (b : Build) → Meets b → OneOutcome b → ⊥
  pub does-nothing : (b : Build) → Meets b → DoesNothing b → ⊥
  pub echoes : (b : Build) → Meets b → Echoes b → ⊥
  pub made_up : (p : Printing) → Prints p → MadeUp p → ⊥
  -- Reader and writer undo each other; a response's commands carry its data, and pieces are joined to the message that was cut
  pub carrying : Carrying
  -- the event queue: whatever messages it is sent, it answers and holds what a plain list of events does; and request 01's sentence, in bytes
  pub queue : (h : List Exchange) (q : Queue) → Queued h q → AsEvents h q
  pub flushing : Flushing
  -- the data store: whatever messages it is sent, it answers and holds what a plain list of files does
  pub store : (h : List Exchange) (b : Book) (area : List ℕ) → Stored h b area → AsFiles h b area
  -- also where its program ends and another goes on with what it saved
  pub lasting : (h : List Exchange) (b : Book) (area : List ℕ) → Lasting h b area → Outlives h b area
  -- 3. Every public start hands back a fresh router, and every run of the code from a fresh router keeps the promise; each premise on marks is needed,
  -- and lets in what a stronger one would shut out
  pub blank-start : Fresh blank
  pub start-from : (set : Result Accepted Refusal) → ((table : Accepted) → set ≡ Ok table → Settled table) → Fresh (router_left (started set))
  pub start-with : (rows : Rows) → Held rows → Fresh (router_left (start_with rows))
  pub lent-start : (rows : List Row) → Fresh (router_left (start_of rows))
  pub kept : (first : Router) → Fresh first → (h : List Entry) (r : Router) → Used first h r → Kept first h r
  pub marks-needed : Needed
  pub marks-admitted : Admitted
