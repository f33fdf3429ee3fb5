-- The C table, proved: each sum from its own room.
use mathlib.Core.Path.{ap}
use Rattle.message.specs.Message.{message_of, response_of}
use Rattle.message.proofs.Sums as message
use Rattle.table.specs.Said.{said_checked}
use Rattle.table.proofs.Desk as table
use Rattle.rules.specs.declared.Outcome.{Outcome}
use Rattle.rules.specs.Apply.{written}
use Rattle.rules.specs.Said.{said_outcome}
use Rattle.rules.proofs.Sums as rules
use Rattle.cutter.proofs.Whole as cutter
use Rattle.replies.specs.Said.{said_answer}
use Rattle.events.specs.Events.{Answered}
use Rattle.events.proofs.Sums as events
use Rattle.demands.specs.Desk.{Desk}

pub desk : Desk
unfolding message_of response_of
desk = record {
  c1 = message.c1;
  c2 = message.c2;
  c3 = message.c3;
  c4 = message.c4;
  c5 = ap said_outcome (rules.c5).outcome;
  c5-bytes = λ buffer. ap (λ (o : Outcome). written o buffer) (rules.c5).outcome;
  c6 = cutter.desk-c6;
  c7 = cutter.desk-c7;
  c9 = λ d1 d2 s1 s2 thread buffer d s there enough. ap (λ (r : Answered). said_answer r.answer) (events.c9-bytes d1 d2 s1 s2 thread buffer d s there enough);
  c9-bytes = λ d1 d2 s1 s2 thread buffer d s there enough. ap (λ (r : Answered). r.reply) (events.c9-bytes d1 d2 s1 s2 thread buffer d s there enough);
  c11 = λ v room s h enough e y t. ap said_outcome (rules.c11 v room s h enough e y t);
  c12-four = ap said_checked table.four-multi;
  c12-five = ap said_checked table.five-multi;
}
