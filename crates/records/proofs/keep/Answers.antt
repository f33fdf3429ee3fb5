-- What is kept is the image of the store.
use Rattle.std.proofs.Common.{sym, ◌∙◌}
use Rattle.records.proofs.Images.{saved}
use Rattle.records.proofs.keep.Goals as goal

pub returns-in-Some : goal.returns-in-Some
returns-in-Some c =
    let d = saved c.args.b c.args.area.now c.image_buffer-next.result _ _ c.requires.0 (sym c.in-Some.is ∙ c.save.ensures.0) c.save.ensures.1 in
    record { room = c.keep_image.ensures.room; image = λ e. c.keep_image.ensures.image e ∙ d.2 }
