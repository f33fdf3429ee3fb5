-- An arm for each command.
use Rattle.std.proofs.Common.{refl, arith}
use Rattle.store.proofs.Deeds.{as-deed, by-add, by-clear, by-close, by-create, by-delete, by-delete-files, by-find, by-find-delete, by-get, by-open, by-other, by-update}
use Rattle.store.specs.Store.{add_deed, clear_deed, code_deed, create_deed, delete_deed, delete_files_deed, find_deed, find_delete_deed, get_deed, mark_deed, update_deed}
use Rattle.tapa.specs.Codes.{unsupported_operation}
use Rattle.store_answers.proofs.obey.Goals as goal

pub returns-in-144 : goal.returns-in-144
returns-in-144 c =
    let a = c.args in
    as-deed _ (create_deed a.part.now a.b a.area.now) _ _ _ _ (by-create a.part.now a.b a.area.now a.kind c.in-144.is) c.on_create.ensures

pub returns-in-145 : goal.returns-in-145
returns-in-145 c =
    let a = c.args in
    as-deed _ (delete_files_deed a.part.now a.b a.area.now) _ _ _ _ (by-delete-files a.part.now a.b a.area.now a.kind c.in-145.is) c.on_delete_files.ensures

pub returns-in-146 : goal.returns-in-146
returns-in-146 c =
    let a = c.args in
    as-deed _ (add_deed a.part.now a.b a.area.now) _ _ _ _ (by-add a.part.now a.b a.area.now a.kind c.in-146.is) c.on_add.ensures

pub returns-in-147 : goal.returns-in-147
returns-in-147 c =
    let a = c.args in
    as-deed _ (get_deed a.part.now a.b a.area.now) _ _ _ _ (by-get a.part.now a.b a.area.now a.kind c.in-147.is) c.on_get.ensures

pub returns-in-148 : goal.returns-in-148
returns-in-148 c =
    let a = c.args in
    as-deed _ (update_deed a.part.now a.b a.area.now) _ _ _ _ (by-update a.part.now a.b a.area.now a.kind c.in-148.is) c.on_update.ensures

pub returns-in-149 : goal.returns-in-149
returns-in-149 c =
    let a = c.args in
    as-deed _ (find_deed a.part.now a.b a.area.now) _ _ _ _ (by-find a.part.now a.b a.area.now a.kind c.in-149.is) c.on_find.ensures

pub returns-in-150 : goal.returns-in-150
returns-in-150 c =
    let a = c.args in
    as-deed _ (delete_deed a.part.now a.b a.area.now) _ _ _ _ (by-delete a.part.now a.b a.area.now a.kind c.in-150.is) c.on_delete.ensures

pub returns-in-151 : goal.returns-in-151
returns-in-151 c =
    let a = c.args in
    as-deed _ (find_delete_deed a.part.now a.b a.area.now) _ _ _ _ (by-find-delete a.part.now a.b a.area.now a.kind c.in-151.is) c.on_find_delete.ensures

pub returns-in-152 : goal.returns-in-152
returns-in-152 c =
    let a = c.args in
    as-deed _ (clear_deed a.part.now a.b a.area.now) _ _ _ _ (by-clear a.part.now a.b a.area.now a.kind c.in-152.is) c.on_clear.ensures

pub returns-in-240 : goal.returns-in-240
returns-in-240 c =
    let a = c.args in
    as-deed _ (mark_deed a.part.now a.b a.area.now) _ _ _ _ (by-open a.part.now a.b a.area.now a.kind c.in-240.is) c.on_mark.ensures

pub returns-in-241 : goal.returns-in-241
returns-in-241 c =
    let a = c.args in
    as-deed _ (mark_deed a.part.now a.b a.area.now) _ _ _ _ (by-close a.part.now a.b a.area.now a.kind c.in-241.is) c.on_mark-in-241.ensures

pub returns-in_default : goal.returns-in_default
returns-in_default c =
    let a = c.args in
    as-deed _ (code_deed unsupported_operation a.b a.area.now) _ _ _ _
    (by-other a.part.now a.b a.area.now a.kind (λ e. omega arith) (λ e. omega arith) (λ e. omega arith) (λ e. omega arith) (λ e. omega arith) (λ e. omega arith)
    (λ e. omega arith) (λ e. omega arith) (λ e. omega arith) (λ e. omega arith) (λ e. omega arith))
    (record { says = c.code_alone.ensures; area' = refl; law = c.requires })
