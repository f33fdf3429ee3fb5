-- Demand 2, of messages: from the rooms message, cutter and joiner.
use Rattle.message.proofs.Back.{reads-back, writes-read}
use Rattle.cutter.proofs.Whole.{cutter-whole}
use Rattle.joiner.proofs.Delivered.{command-delivered, response-delivered}
use Rattle.demands.specs.Carrying.{Carrying}

pub carrying : Carrying
carrying = record {
  written_read = λ d s kind t part before after n w. let r = reads-back d s kind t part before after n w in (r.fields, r.same-part);
  read-written = writes-read;
  cut = λ message b buffers begins l. let c = cutter-whole message b buffers begins l in (c.whole, c.shape);
  joined = λ j first rest before idle small smalls room d s kind t part other few fit e.
      command-delivered j first rest before idle small smalls room d s kind t part other few fit e;
  response-joined = λ j first rest before idle small smalls room d s t part few fit kept e.
      response-delivered j first rest before idle small smalls room d s t part few fit kept e;
}
