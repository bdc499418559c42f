use Rattle.std.proofs.Common.{◌≡◌, ◌∙◌, ◌++◌, ◌∷◌, [], List, sym, ap, subst, arith}
use Rattle.std.proofs.lemmas.List.{nil_from_length}
use Rattle.command_library.specs.MadeTree.{keys_of}
use Rattle.command_library.specs.Reading.{AreKeys}
use Rattle.command_library.specs.declared.keys.Part.{Part}
use Rattle.command_library.proofs.Waiting.{first_part, no_part}
use Rattle.command_library.proofs.keys.keys_in.Goals as goal

pub reading-init : goal.reading-init
reading-init c = λ small v at.
    let tb = c.args.table.now in
    let cs = c.args.cells.now.cells in
    let waits : c.push.new.self.items ≡ c.args.part ∷ [] = c.in_ok-push.ensures.items ∙ ap (λ (ps : List Part). ps ++ c.args.part ∷ []) c.new-waiting.ensures.items in
    subst (λ ws. AreKeys tb cs c.push.new.self.items ws (keys_of v)) (sym c.new-keys.ensures.items) (subst (λ ps. AreKeys tb cs ps [] (keys_of v)) (sym waits) (first_part tb cs c.args.part v at))

pub returns-in-None : goal.returns-in-None
returns-in-None c = record {
  keys = λ small v at.
      let tb = c.args.table.now in
      let cs = c.args.cells.now.cells in
      let none : c.reading.waiting.items ≡ [] = nil_from_length c.reading.waiting.items (let z = c.in-None.ensures.cases.0 in omega (arith, z)) in
      no_part tb cs c.reading.keys.items (keys_of v) (subst (λ ps. AreKeys tb cs ps c.reading.keys.items (keys_of v)) none (c.reading.invariant small v at));
}
