-- The text `rbtree` denotes its program, by computation.
use Rattle.std.proofs.Common.{◌<◌, ℕ, zero, suc, List, [], ◌∷◌, refl, arith}
use Rattle.library_sources.specs.declared.rbtree.TheConstants.{TEXT}
use Rattle.source_report.specs.data_types.Declarations.{declarations}
use Rattle.source_report.specs.data_types.Types.{Node, End, IsValued}
use Rattle.source_report.specs.Report.{IsTyped, IsAccepted}
use Rattle.source_report.specs.reached_instances.closed_types.Closed.{Closed, Int}
use Rattle.source_report.specs.static_params.FlatSource.{flat_source}
use Rattle.library_programs.specs.RedBlackProgram.{rbtree_program}
use Rattle.library_texts.specs.ComesTo.{ComesTo}
use Rattle.library_texts.proofs.RedBlackCalls.{rbtree_told}
use Rattle.library_texts.proofs.RedBlackCore.{rbtree_core}
use Rattle.library_texts.proofs.Accepting.{BreaksNone, is_accepted}
use Rattle.library_texts.proofs.Deriving.{IsPlain, plain_type, type_at, comes_to}
use Rattle.library_texts.proofs.Typing.{IsReadable, IsRightCore, is_typed}

abbrev named_types : List Closed
named_types = plain_type 1 ∷ plain_type 3 ∷ plain_type 4 ∷ plain_type 6 ∷ plain_type 2 ∷ type_at 5 Int ∷ type_at 5 (plain_type 4) ∷ []

plain : IsPlain (flat_source rbtree_core) named_types
plain = record { instances = refl; passed = refl; named = refl; types = refl; few = refl; few_types = refl }

pub rbtree_comes : ComesTo TEXT.now rbtree_program
rbtree_comes = comes_to TEXT.now refl rbtree_core refl named_types plain rbtree_program refl

readable : IsReadable TEXT.now
readable = record { cut = refl; read = refl; accepted = refl; short = refl }

-- each data type has a value
valued : (n : ℕ) → n < 6 → IsValued (declarations rbtree_core) n
valued zero h = (Node 0 End, (_, refl, tt))
valued (suc zero) h = (Node 0 End, (_, refl, tt))
valued (suc (suc zero)) h = (Node 0 End, (_, refl, tt))
valued (suc (suc (suc zero))) h = (Node 0 End, (_, refl, tt))
valued (suc (suc (suc (suc zero)))) h = (Node 0 End, (_, refl, tt))
valued (suc (suc (suc (suc (suc zero))))) h = (Node 0 End, (_, refl, tt))
valued (suc (suc (suc (suc (suc (suc n)))))) h = absurd (omega (arith, h))

right_core : IsRightCore rbtree_core named_types
right_core = record { declared = refl; valued = valued; plain = plain; uses = refl; types = refl }

pub rbtree_typed : IsTyped TEXT.now rbtree_program
rbtree_typed = is_typed TEXT.now readable rbtree_core refl named_types right_core rbtree_program refl

breaks_none : BreaksNone rbtree_program rbtree_told
breaks_none = record {
  shapes = refl;
  matches = refl;
  owned = refl;
  credited = refl;
  told = record {
    calls = refl;
    frames = refl;
    size = refl;
    counted = refl;
    together = refl;
    stacks = record { size = refl; framed = refl; frames_least = refl; words_least = refl };
  };
  tailed = refl;
  limits = refl;
}

pub rbtree_accepted : IsAccepted TEXT.now rbtree_program
rbtree_accepted = is_accepted TEXT.now rbtree_program rbtree_told rbtree_typed breaks_none
