-- Bool is the first type of the program of a source, since it is the first that is numbered.
use Rattle.std.proofs.Common.{◌≡◌, ℕ, suc, Bool, true, false, List, [], ◌∷◌, ◌++◌, Some, slice_get, if◌then◌else◌, refl, sym, ap, ◌∙◌, arith}
use Rattle.std.specs.List.{list_any}
use Rattle.std.proofs.lemmas.Option.{none-some}
use Rattle.fip_language.specs.Core.{Core}
use Rattle.fip_language.specs.Declarations.{bool_type, data_types}
use Rattle.fip_language.specs.Mentions.{all_of}
use Rattle.fip_language.specs.Table.{shapes}
use Rattle.fip_trees.specs.SoundProgram.{bool_row}
use Rattle.reached_instances.specs.closed_types.declared.closed.Head.TheVariants as H
use Rattle.reached_instances.specs.closed_types.Closed.{Closed, Closeds, Applied, NoClosed, same_closed}
use Rattle.reached_instances.specs.closed_types.Numbering.{with_new, with_all}
use Rattle.reached_instances.specs.closed_types.TypeInstances.{types_of_instance, types_given, parts_of}
use Rattle.static_params.specs.Answers.{AreFew}
use Rattle.static_params.specs.FlatProgram.{Numbers, flat_program}
use Rattle.static_params.specs.FlatSource.{flat_source}
use Rattle.static_params.proofs.TableRows.{row_there, some_type}
use Rattle.static_params.proofs.TypeRows.{row_of}

new_keeps : (xs : List Closed) (x y : Closed) (b : Bool) → slice_get xs 0 ≡ Some x → slice_get (if b then xs else xs ++ y ∷ []) 0 ≡ Some x
new_keeps [] x y b h = absurd (none-some x h)
new_keeps (z ∷ xs) x y true h = h
new_keeps (z ∷ xs) x y false h = h

-- the first of what is numbered stays the first
all_keep : (xs ys : List Closed) (x : Closed) → slice_get xs 0 ≡ Some x → slice_get (with_all same_closed xs ys) 0 ≡ Some x
all_keep xs [] x h = h
all_keep xs (y ∷ ys) x h = all_keep (with_new same_closed xs y) ys x (new_keeps xs x y (list_any (λ z. same_closed y z) xs) h)

module _ (core : Core) (ns : Numbers) (few : AreFew (flat_source core) ns) where
  abbrev first : Closed
  first = Applied (H.«Type» 1) NoClosed

  first_type : slice_get ns.types 0 ≡ Some first
  first_type =
      ap (λ l. slice_get l 0) few.types.ordered
      ∙ all_keep (first ∷ []) ((all_of (types_of_instance (flat_source core)) ns.instances ++ all_of types_given few.passed) ++ all_of (parts_of (flat_source core)) ns.types) first refl

  first_number : (n : ℕ) (cs : Closeds) → slice_get ns.types 0 ≡ Some (Applied (H.«Type» (suc n)) cs) → n ≡ 0
  first_number n cs e =
      let f : Some first ≡ Some (Applied (H.«Type» (suc n)) cs) = sym first_type ∙ e in
      let g : ◌≡◌ {A = ℕ} 1 (suc n) = cc in
      omega (arith, g)

  its_row : (cs : Closeds) → row_of core ns bool_type cs ≡ bool_row
  its_row cs = refl

  pub first_shapes : shapes (flat_program (flat_source core) ns).types 0 ≡ bool_row
  first_shapes =
      let r = row_there core ns few.passed few.instances.instances few.given few.types 0 (some_type core ns few.passed few.instances.instances few.given few.types) in
      let number = first_number r.number r.arguments r.at in
      let at : Some bool_type ≡ Some r.«data» = sym (ap (slice_get (data_types core)) number) ∙ r.there in
      let same : bool_type ≡ r.«data» = cc in
      r.row ∙ ap (λ d. row_of core ns d r.arguments) (sym same) ∙ its_row r.arguments
