-- What Delete File does.
use Rattle.std.proofs.Common.{sym}
use Rattle.file_commands.proofs.Erases.{delete-files-right}
use Rattle.file_commands.specs.Erasing.{delete_files_area, delete_files_of}
use Rattle.files.specs.Asked.{ids_of, ids_shape}
use Rattle.store.proofs.Deeds.{gone-did}
use Rattle.store_answers.proofs.on_delete_files.Goals as goal

pub returns : goal.returns
returns c =
    let a = c.args in
    let w = c.delete_files-done.ensures in
    gone-did (ids_shape a.part.now) c.delete_files-done.result (delete_files_of a.b (ids_of a.part.now)) a.b a.area.now (delete_files_area a.b (ids_of a.part.now) a.area.now) _ _ _ _
    (delete-files-right a.b a.area.now c.requires (ids_of a.part.now)).lawful (sym c.if-not-has_ids.ensures) w.0 w.1 c.gone.ensures
