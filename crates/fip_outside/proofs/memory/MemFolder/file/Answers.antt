use Rattle.std.proofs.Common.{Some, sym, ap, ◌∙◌}
use Rattle.std.specs.Prelude.{position}
use Rattle.fip_outside.specs.Files.{file_of}
use Rattle.fip_outside.proofs.Named.{is_named, file_of-Some, file_of-None}
use Rattle.fip_outside.proofs.memory.MemFolder.file.Goals as goal

pub returns-in-Some : goal.returns-in-Some
returns-in-Some c =
    let name = c.args.name.now in
    let entries = c.self.inside.files.items in
    let found = ap (λ xs. position (is_named name) xs) (sym c.deref.ensures.value) ∙ sym c.in-Some.ensures in
    sym (ap (λ v. file_of name v.files) c.self.view_is)
    ∙ file_of-Some name entries c.in-Some.index c.index.result.now found
    ∙ ap (λ entry. Some entry.1.items) (sym c.index.ensures)
    ∙ ap Some (sym c.as_slice.ensures.value)

pub returns-in-None : goal.returns-in-None
returns-in-None c =
    let name = c.args.name.now in
    let missing = ap (λ xs. position (is_named name) xs) (sym c.deref.ensures.value) ∙ sym c.in-None.ensures in
    sym (ap (λ v. file_of name v.files) c.self.view_is) ∙ file_of-None name c.self.inside.files.items missing
