-- What is looked up once of a function is what its header and its body mention.
use Rattle.std.proofs.Common.{◌≡◌, ℕ, ◌+◌, ◌<◌, true, List, [], ◌∷◌, length, map, get_or, reverse, slice_get, Some, refl, ap, sym, ◌∙◌}
use Rattle.std.proofs.lemmas.List.{reverse-append}
use Rattle.fip_base.specs.CoreView.{block, function, parameter, written}
use Rattle.reached_instances.specs.declared.source.Source as D
use Rattle.reached_instances.specs.declared.source.FunctionSource.{FunctionSource}
use Rattle.closed_types.specs.Binders.{binders_in, binders_in_block}
use Rattle.closed_types.specs.Instances.{calls}
use Rattle.closed_types.specs.MentionsView.{Heard, heard, hears_block, nothing, use_of}
use Rattle.reached_instances.specs.SourceView.{IsLookedUp, function_source, source}
use Rattle.closed_types.specs.DeclaredView.{declared_with}
use Rattle.closed_types.specs.TypeInstances.{annotations_in_block, numbers_named, written_in_header}
use Rattle.reached_instances.proofs.Declaring.{map_length}
use Rattle.closed_types.proofs.Declarations.{at_there}
use Rattle.closed_types.proofs.Heard.{block_annotations, block_binders, block_named, block_sites}
use Rattle.reached_instances.proofs.Putting.{every_there}

twice : {A : Type 0} (xs : List A) → reverse (reverse xs) ≡ xs
twice [] = refl
twice (x ∷ xs) = ap reverse (reverse-append (x ∷ []) xs) ∙ reverse-append (reverse xs) (x ∷ []) ∙ ap (λ l. x ∷ l) (twice xs)

module _ (s : D.Source) (i : ℕ) (f : FunctionSource) (l : IsLookedUp s) (h : i < length s.functions.items) (e : f ≡ get_or s.functions.items i f) where
  there : slice_get (source s).functions i ≡ Some (function_source f)
  there = at_there function_source s.functions.items i f h e

  pub header_there : map (λ w. written w.now) f.header.items ≡ written_in_header (function_source f)
  header_there = every_there (λ (g : FunctionSource). map (λ w. written w.now) g.header.items ≡ written_in_header (function g.function.now)) s.functions.items i f l.headed h e

  heard_there : heard f.mentions ≡ hears_block (declared_with s.decls.now []) (nothing (length f.function.now.parameters.items)) (block f.function.now.body)
  heard_there = every_there (λ (g : FunctionSource). heard g.mentions ≡ hears_block (declared_with s.decls.now []) (nothing (length g.function.now.parameters.items)) (block g.function.now.body)) s.functions.items i f l.heard h e

  pub annotations_there : map (λ w. written w.now) f.mentions.annotations.items ≡ annotations_in_block (function_source f).body
  annotations_there =
      ap (λ (g : Heard). g.annotations) heard_there
      ∙ block_annotations (declared_with s.decls.now []) (nothing (length f.function.now.parameters.items)) (block f.function.now.body)

  pub named_there : f.mentions.named.keys ≡ numbers_named (source s) (function_source f).body
  named_there =
      ap (λ (g : Heard). g.named) heard_there
      ∙ block_named (declared_with s.decls.now []) (nothing (length f.function.now.parameters.items)) (block f.function.now.body)

  pub sites_there : map use_of f.mentions.sites.items ≡ calls (function_source f)
  sites_there =
      sym (twice (map use_of f.mentions.sites.items))
      ∙ ap reverse (ap (λ (g : Heard). g.sites) heard_there ∙ block_sites (declared_with s.decls.now []) true (nothing (length f.function.now.parameters.items)) (block f.function.now.body))

  pub binders_there : length f.mentions.binders.items ≡ binders_in (function_source f)
  binders_there =
      ap (λ (g : Heard). g.binders) heard_there
      ∙ block_binders (declared_with s.decls.now []) (nothing (length f.function.now.parameters.items)) (block f.function.now.body)
      ∙ ap (λ n. n + binders_in_block (block f.function.now.body)) (sym (map_length parameter f.function.now.parameters.items))
