-- The beginning of the file is forms of the sheet.
use Rattle.picture.proofs.Front.{drawn}
use Rattle.picture.proofs.opening.Goals as goal

pub returns : goal.returns
returns c = drawn _ _ _ c.draw_opening-begun.result.now _ _ c.put_list.ensures
