-- What is written is the list of forms that was chosen.
use Rattle.std.proofs.Common.{rules}
use Rattle.picture.proofs.put_row.Goals as goal

pub returns : goal.returns
returns c = record {
  list = c.draw_row-drawn.result.now;
  count = _;
  room = search rules;
  text = c.put_list.ensures;
}
