-- The three demands, proved.
use Rattle.history.proofs.Admitted.{admitted}
use Rattle.history.proofs.Needed.{needed}
use Rattle.demands.specs.Demands.{Demands}
use Rattle.demands.proofs.One.{one-result}
use Rattle.demands.proofs.Desk.{desk}
use Rattle.demands.proofs.Refusing.{refusing}
use Rattle.demands.proofs.Carrying.{carrying}
use Rattle.demands.proofs.Queued.{flushing, queued-as-events}
use Rattle.demands.proofs.Cheats.{refuses-all, one-outcome, does-nothing, echoes, made_up}
use Rattle.demands.proofs.Lasting.{outlives}
use Rattle.demands.proofs.Stored.{stored-as-files}
use Rattle.demands.proofs.Used.{blank-fresh, start-from-fresh, start-with-fresh, start-fresh, used-lawful, promise-used, bounded-used, rows-used, marks-used}

pub demands : Demands
demands = record {
  one-result = one-result;
  refusing = refusing;
  sums = desk;
  refuses-all = refuses-all;
  one-outcome = one-outcome;
  does-nothing = does-nothing;
  echoes = echoes;
  made_up = made_up;
  carrying = carrying;
  queue = λ h q s. queued-as-events s;
  flushing = flushing;
  store = λ h b area s. stored-as-files s;
  lasting = λ h b area s. outlives s;
  blank-start = blank-fresh;
  start-from = start-from-fresh;
  start-with = start-with-fresh;
  lent-start = start-fresh;
  kept = λ first f h r u. record {
    law = used-lawful first f u;
    promise = promise-used first f u;
    bound = bounded-used first f u;
    opened = rows-used first f u;
    marks = λ mark m. marks-used first f mark u m;
  };
  marks-needed = needed;
  marks-admitted = admitted;
}
