-- For the contracts of the code alone: what has been heard of a body when a walk has come so far, and how it goes on.
use Rattle.std.specs.Prelude.{ℕ, ◌+◌, List, [], ◌∷◌, ◌++◌, length, map, reverse, Option, nat_eq}
use Rattle.fip_base.specs.fip_language.Core.{Name, Written, WrittenName, Binder, Argument, Variable, Literal, Constructor}
use Rattle.fip_base.specs.fip_language.Core.{Arguments, NoArguments, MoreArguments, Pattern, BinderPattern, LiteralPattern}
use Rattle.fip_base.specs.fip_language.Core.{ConstructorPattern, Patterns, NoPatterns, MorePatterns, Expression, Give, Tuple}
use Rattle.fip_base.specs.fip_language.Core.{Operation, Call, Match, Nested, Block, Last, Let, Clauses, NoClauses, MoreClauses}
use Rattle.fip_base.specs.CoreView as V
use Rattle.fip_trees.specs.Names.{meaning}
use Rattle.closed_types.specs.declared.mentions.CallSite.{CallSite}
use Rattle.closed_types.specs.declared.mentions.Mentions.{Mentions}
use Rattle.closed_types.specs.Source.{Source}
use Rattle.closed_types.specs.Instances.{put_in_order}
use Rattle.closed_types.specs.Numbering.{with_all}
use Rattle.closed_types.specs.TypeInstances.{annotation_of, plain_number}

-- the calls, the last in the text first; the annotations; the data types without parameters that are named; how many
-- binders there are, parameters included
pub record Heard : Type 0 where
  pub sites : List Written
  pub annotations : List Written
  pub named : List ℕ
  pub binders : ℕ

-- nothing but so many parameters
abbrev pub nothing : ℕ → Heard
nothing n = record { sites = []; annotations = []; named = []; binders = n }

abbrev pub use_of : CallSite → Written
use_of c = WrittenName c.name.now c.place (V.writtens c.statics.now)

abbrev pub heard : Mentions → Heard
heard m = record {
  sites = reverse (map use_of m.sites.items);
  annotations = map (λ w. V.written w.now) m.annotations.items;
  named = m.named.keys;
  binders = length m.binders.items;
}

abbrev pub with_site : Heard → Written → Heard
with_site h u = record {
  sites = put_in_order u h.sites;
  annotations = h.annotations;
  named = h.named;
  binders = h.binders;
}

-- a binder with its annotation
abbrev pub with_annotation : Heard → Option Written → Heard
with_annotation h o = record {
  sites = h.sites;
  annotations = h.annotations ++ annotation_of o;
  named = h.named;
  binders = h.binders + 1;
}

abbrev pub with_numbers : Heard → List ℕ → Heard
with_numbers h ns = record {
  sites = h.sites;
  annotations = h.annotations;
  named = with_all nat_eq h.named ns;
  binders = h.binders;
}

abbrev pub with_constructor : Source → Heard → Name → Heard
with_constructor s h x = with_numbers h (plain_number s (meaning x s.names.constructors))

abbrev mutual
  pub hears_argument : Source → Heard → Argument → Heard
  hears_argument s h (Variable b x p) = h
  hears_argument s h (Literal i p) = h
  hears_argument s h (Constructor x p as') = hears_arguments s (with_constructor s h x) as'

  pub hears_arguments : Source → Heard → Arguments → Heard
  hears_arguments s h NoArguments = h
  hears_arguments s h (MoreArguments a as') = hears_arguments s (hears_argument s h a) as'

abbrev mutual
  pub hears_pattern : Source → Heard → Pattern → Heard
  hears_pattern s h (BinderPattern b) = with_annotation h b.annotation
  hears_pattern s h (LiteralPattern i p) = h
  hears_pattern s h (ConstructorPattern x p ps) = hears_patterns s (with_constructor s h x) ps

  pub hears_patterns : Source → Heard → Patterns → Heard
  hears_patterns s h NoPatterns = h
  hears_patterns s h (MorePatterns p ps) = hears_patterns s (hears_pattern s h p) ps

abbrev pub hears_binders : Heard → List Binder → Heard
hears_binders h [] = h
hears_binders h (b ∷ bs) = hears_binders (with_annotation h b.annotation) bs

abbrev mutual
  pub hears_expression : Source → Heard → Expression → Heard
  hears_expression s h (Give a) = hears_argument s h a
  hears_expression s h (Tuple p as') = hears_arguments s h as'
  hears_expression s h (Operation o p a b) = hears_argument s (hears_argument s h a) b
  hears_expression s h (Call x p ws as') = hears_arguments s (with_site h (WrittenName x p ws)) as'
  hears_expression s h (Match d p a cs) = hears_clauses s (hears_argument s h a) cs
  hears_expression s h (Nested b) = hears_block s h b

  pub hears_block : Source → Heard → Block → Heard
  hears_block s h (Last e) = hears_expression s h e
  hears_block s h (Let bs e rest) = hears_block s (hears_expression s (hears_binders h bs) e) rest

  pub hears_clauses : Source → Heard → Clauses → Heard
  hears_clauses s h NoClauses = h
  hears_clauses s h (MoreClauses p b rest) = hears_clauses s (hears_block s (hears_pattern s h p) b) rest
