-- The text `finger` denotes its program, by computation.
use Rattle.std.proofs.Common.{◌<◌, ℕ, zero, suc, List, [], ◌∷◌, refl, arith}
use Rattle.library_sources.specs.declared.finger.TheConstants.{TEXT}
use Rattle.source_report.specs.data_types.Declarations.{declarations}
use Rattle.source_report.specs.data_types.Types.{Node, End, More, Leaf, IsValued}
use Rattle.source_report.specs.Report.{IsTyped, IsAccepted}
use Rattle.source_report.specs.reached_instances.closed_types.Closed.{Closed}
use Rattle.source_report.specs.static_params.FlatSource.{flat_source}
use Rattle.library_programs.specs.FingerProgram.{finger_program}
use Rattle.library_texts.specs.ComesTo.{ComesTo}
use Rattle.library_texts.proofs.FingerCalls.{finger_told}
use Rattle.library_texts.proofs.FingerCore.{finger_core}
use Rattle.library_texts.proofs.Accepting.{BreaksNone, is_accepted}
use Rattle.library_texts.proofs.Deriving.{IsPlain, plain_type, comes_to}
use Rattle.library_texts.proofs.Typing.{IsReadable, IsRightCore, is_typed}

abbrev named_types : List Closed
named_types = plain_type 1 ∷ plain_type 4 ∷ plain_type 3 ∷ plain_type 5 ∷ plain_type 2 ∷ plain_type 6 ∷ []

plain : IsPlain (flat_source finger_core) named_types
plain = record { instances = refl; passed = refl; named = refl; types = refl; few = refl; few_types = refl }

pub finger_comes : ComesTo TEXT.now finger_program
finger_comes = comes_to TEXT.now refl finger_core refl named_types plain finger_program refl

readable : IsReadable TEXT.now
readable = record { cut = refl; read = refl; accepted = refl; short = refl }

-- each data type has a value
valued : (n : ℕ) → n < 6 → IsValued (declarations finger_core) n
valued zero h = (Node 0 End, (_, refl, tt))
valued (suc zero) h = (Node 0 (More Leaf (More Leaf (More Leaf End))), (_, refl, (tt, (tt, (tt, tt)))))
valued (suc (suc zero)) h = (Node 0 (More (Node 0 (More Leaf (More Leaf (More Leaf End)))) (More Leaf (More Leaf End))), (_, refl, ((_, refl, (tt, (tt, (tt, tt)))), (tt, (tt, tt)))))
valued (suc (suc (suc zero))) h = (Node 0 End, (_, refl, tt))
valued (suc (suc (suc (suc zero)))) h = (Node 0 End, (_, refl, tt))
valued (suc (suc (suc (suc (suc zero))))) h = (Node 0 End, (_, refl, tt))
valued (suc (suc (suc (suc (suc (suc n)))))) h = absurd (omega (arith, h))

right_core : IsRightCore finger_core named_types
right_core = record { declared = refl; valued = valued; plain = plain; uses = refl; types = refl }

pub finger_typed : IsTyped TEXT.now finger_program
finger_typed = is_typed TEXT.now readable finger_core refl named_types right_core finger_program refl

breaks_none : BreaksNone finger_program finger_told
breaks_none = record {
  shapes = refl;
  matches = refl;
  owned = refl;
  credited = refl;
  told = record {
    calls = refl;
    frames = refl;
    size = refl;
    counted = refl;
    together = refl;
    stacks = record { size = refl; framed = refl; frames_least = refl; words_least = refl };
  };
  tailed = refl;
  limits = refl;
}

pub finger_accepted : IsAccepted TEXT.now finger_program
finger_accepted = is_accepted TEXT.now finger_program finger_told finger_typed breaks_none
