-- What an image holds is a store, and the image is that store's.
use Rattle.std.proofs.Common.{sym, ◌∙◌, take, rules}
use Rattle.lists.proofs.Bytes.{bytes_take}
use Rattle.records.proofs.Images.{resumed}
use Rattle.records.proofs.resume.Goals as goal

pub show_inputs-requires : goal.show_inputs-requires
show_inputs-requires c =
    let d = resumed (take c.args.size c.args.last.now) c.args.area.now _ c.in-Ok.book (bytes_take c.args.size c.args.last.now (λ i. search rules)) (sym c.in-Ok.is ∙ c.load.ensures.0) c.load.ensures.1 in
    record { store = d.0; room = c.requires; image = d.1 }
