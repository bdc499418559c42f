-- The text `tree` denotes its program, by computation.
use Rattle.std.proofs.Common.{◌<◌, ℕ, zero, suc, List, [], ◌∷◌, refl, arith}
use Rattle.library_sources.specs.declared.tree.TheConstants.{TEXT}
use Rattle.source_report.specs.data_types.Declarations.{declarations}
use Rattle.source_report.specs.data_types.Types.{Node, End, IsValued}
use Rattle.source_report.specs.Report.{IsTyped, IsAccepted}
use Rattle.source_report.specs.reached_instances.closed_types.Closed.{Closed, Int}
use Rattle.source_report.specs.static_params.FlatSource.{flat_source}
use Rattle.library_programs.specs.TreeProgram.{tree_program}
use Rattle.library_texts.specs.ComesTo.{ComesTo}
use Rattle.library_texts.proofs.TreeCalls.{tree_told}
use Rattle.library_texts.proofs.TreeCore.{tree_core}
use Rattle.library_texts.proofs.Accepting.{BreaksNone, is_accepted}
use Rattle.library_texts.proofs.Deriving.{IsPlain, plain_type, type_at, comes_to}
use Rattle.library_texts.proofs.Typing.{IsReadable, IsRightCore, is_typed}

abbrev named_types : List Closed
named_types = plain_type 1 ∷ type_at 2 Int ∷ plain_type 3 ∷ []

plain : IsPlain (flat_source tree_core) named_types
plain = record { instances = refl; passed = refl; named = refl; types = refl; few = refl; few_types = refl }

pub tree_comes : ComesTo TEXT.now tree_program
tree_comes = comes_to TEXT.now refl tree_core refl named_types plain tree_program refl

readable : IsReadable TEXT.now
readable = record { cut = refl; read = refl; accepted = refl; short = refl }

-- each data type has a value
valued : (n : ℕ) → n < 3 → IsValued (declarations tree_core) n
valued zero h = (Node 0 End, (_, refl, tt))
valued (suc zero) h = (Node 0 End, (_, refl, tt))
valued (suc (suc zero)) h = (Node 0 End, (_, refl, tt))
valued (suc (suc (suc n))) h = absurd (omega (arith, h))

right_core : IsRightCore tree_core named_types
right_core = record { declared = refl; valued = valued; plain = plain; uses = refl; types = refl }

pub tree_typed : IsTyped TEXT.now tree_program
tree_typed = is_typed TEXT.now readable tree_core refl named_types right_core tree_program refl

breaks_none : BreaksNone tree_program tree_told
breaks_none = record {
  shapes = refl;
  matches = refl;
  owned = refl;
  credited = refl;
  told = record {
    calls = refl;
    frames = refl;
    size = refl;
    counted = refl;
    together = refl;
    stacks = record { size = refl; framed = refl; frames_least = refl; words_least = refl };
  };
  tailed = refl;
  limits = refl;
}

pub tree_accepted : IsAccepted TEXT.now tree_program
tree_accepted = is_accepted TEXT.now tree_program tree_told tree_typed breaks_none
