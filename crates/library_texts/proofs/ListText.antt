-- The text `list` denotes its program, by computation.
use Rattle.std.proofs.Common.{◌<◌, ℕ, zero, suc, List, [], ◌∷◌, refl, arith}
use Rattle.library_sources.specs.declared.list.TheConstants.{TEXT}
use Rattle.source_report.specs.data_types.Declarations.{declarations}
use Rattle.source_report.specs.data_types.Types.{Node, End, More, IsValued}
use Rattle.source_report.specs.Report.{IsTyped, IsAccepted}
use Rattle.source_report.specs.reached_instances.closed_types.Closed.{Closed, Int}
use Rattle.source_report.specs.static_params.FlatSource.{flat_source}
use Rattle.library_programs.specs.ListProgram.{list_program}
use Rattle.library_texts.specs.ComesTo.{ComesTo}
use Rattle.library_texts.proofs.ListCalls.{list_told}
use Rattle.library_texts.proofs.ListCore.{list_core}
use Rattle.library_texts.proofs.Accepting.{BreaksNone, is_accepted}
use Rattle.library_texts.proofs.Deriving.{IsPlain, plain_type, type_at, comes_to}
use Rattle.library_texts.proofs.Typing.{IsReadable, IsRightCore, is_typed}

abbrev named_types : List Closed
named_types = plain_type 1 ∷ type_at 2 Int ∷ plain_type 3 ∷ []

plain : IsPlain (flat_source list_core) named_types
plain = record { instances = refl; passed = refl; named = refl; types = refl; few = refl; few_types = refl }

pub list_comes : ComesTo TEXT.now list_program
list_comes = comes_to TEXT.now refl list_core refl named_types plain list_program refl

readable : IsReadable TEXT.now
readable = record { cut = refl; read = refl; accepted = refl; short = refl }

-- each data type has a value
valued : (n : ℕ) → n < 3 → IsValued (declarations list_core) n
valued zero h = (Node 0 End, (_, refl, tt))
valued (suc zero) h = (Node 0 End, (_, refl, tt))
valued (suc (suc zero)) h = (Node 0 (More (Node 0 End) (More (Node 0 End) End)), (_, refl, ((_, refl, tt), ((_, refl, tt), tt))))
valued (suc (suc (suc n))) h = absurd (omega (arith, h))

right_core : IsRightCore list_core named_types
right_core = record { declared = refl; valued = valued; plain = plain; uses = refl; types = refl }

pub list_typed : IsTyped TEXT.now list_program
list_typed = is_typed TEXT.now readable list_core refl named_types right_core list_program refl

breaks_none : BreaksNone list_program list_told
breaks_none = record {
  shapes = refl;
  matches = refl;
  owned = refl;
  credited = refl;
  told = record {
    calls = refl;
    frames = refl;
    size = refl;
    counted = refl;
    together = refl;
    stacks = record { size = refl; framed = refl; frames_least = refl; words_least = refl };
  };
  tailed = refl;
  limits = refl;
}

pub list_accepted : IsAccepted TEXT.now list_program
list_accepted = is_accepted TEXT.now list_program list_told list_typed breaks_none
