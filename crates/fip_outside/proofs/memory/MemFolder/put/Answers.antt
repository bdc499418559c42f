use Rattle.std.proofs.Common.{ℕ, List, sym, ap, ap₂, ◌∙◌}
use Rattle.std.specs.Prelude.{position, string_bytes}
use Rattle.fip_outside.specs.Files.{File, put_file}
use Rattle.fip_outside.specs.Objects.{CallLog, FolderState}
use Rattle.fip_outside.specs.Entries.{Entry, files_in}
use Rattle.fip_outside.proofs.Named.{is_named, put_file-Some, put_file-None}
use Rattle.fip_outside.proofs.memory.MemFolder.put.Goals as goal

abbrev file : List ℕ → List ℕ → File
file name bytes = record { name = name; bytes = bytes }

abbrev folder : List File → CallLog → FolderState
folder files calls = record { files = files; calls = calls }

pub returns-in-Some-clause-ok : goal.returns-in-Some-clause-ok
returns-in-Some-clause-ok c =
    let name = c.args.name.now in
    let bytes = c.args.bytes.now in
    let s = c.self.inside in
    let entry = c.index_mut.result.now in
    let found = ap (λ xs. position (is_named name) xs) (sym c.deref.ensures.value) ∙ sym c.in-Some.ensures in
    let same = ap₂ file (ap (λ e. string_bytes e.0) c.index_mut.ensures.value) c.in_ok-bytes.ensures.items in
    sym (ap (λ files. folder files s.calls) (put_file-Some name bytes s.files.items c.in-Some.index entry (entry.0, c.in_ok-bytes.bytes) found same))
    ∙ ap (λ v. folder (put_file name bytes v.files) v.calls) c.self.view_is

pub returns-in_ok-push-in-None-clause-ok : goal.returns-in_ok-push-in-None-clause-ok
returns-in_ok-push-in-None-clause-ok c =
    let name = c.args.name.now in
    let bytes = c.args.bytes.now in
    let s = c.self.inside in
    let entry : Entry = (c.in_ok-name-in-None.name, c.in_ok-bytes.bytes) in
    let missing = ap (λ xs. position (is_named name) xs) (sym c.deref.ensures.value) ∙ sym c.in-None.ensures in
    let same = ap₂ file c.in_ok-name-in-None.ensures.ok c.in_ok-bytes.ensures.items in
    ap (λ entries. folder (files_in entries) s.calls) c.in_ok-push-in-None.ensures.items
    ∙ sym (ap (λ files. folder files s.calls) (put_file-None name bytes s.files.items entry entry missing same))
    ∙ ap (λ v. folder (put_file name bytes v.files) v.calls) c.self.view_is
