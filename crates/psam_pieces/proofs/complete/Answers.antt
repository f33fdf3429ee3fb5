-- Four stores are the destination and the code.
use Rattle.joiner.proofs.Laws.{four-stores}
use Rattle.psam_pieces.proofs.complete.Goals as goal

pub returns : goal.returns
returns c = four-stores c.args.m c.args.source c.args.buffer.now c.requires.le_m c.requires.m_in_bounds
