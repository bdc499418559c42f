-- It serves the proof that lowered code is laid out as asked: what is reported of the registers where a test failed. The
-- scrutinee and the positions that were read have the constructors that they may still have; the others are reported as
-- they are known before the match.
-- Where xs in register 0 isn't Nil, and nothing was read, 0 is reported as Owned 2 (1 ∷ []).
use Rattle.std.specs.Prelude.{ℕ, suc, Bool, List, [], ◌∷◌, Option, Some, None, slice_set, get_or, if◌then◌else◌}
use Rattle.fip_language.specs.Table.{Table}
use Rattle.cell_code.specs.declared.kind.Kind.{Kind}
use Rattle.cell_code.specs.declared.kind.Kind.TheVariants as K
use Rattle.lower_frame.specs.code_rules.Types.{fields}
use Rattle.match_knowledge.specs.declared.heads.Head.TheVariants.{Number, Tag}
use Rattle.match_knowledge.specs.Known.{Known, Open, Is, Knowns, NoKnowns, MoreKnowns}
use Rattle.lower_frame.specs.lowering_relation.Spots as S
use Rattle.lower_frame.specs.lowering_relation.Spots.{Spot, Spots, NoSpots, MoreSpots}
use Rattle.lower_frame.specs.lowering_relation.Reading.{contains}
use Rattle.lower_frame.specs.lowering_relation.Entering.{root_of}
use Rattle.lower_frame.specs.lowering_relation.declared.held.Held.{Held}
use Rattle.lower_frame.specs.lowering_relation.declared.held.Held.TheVariants as H
use Rattle.lower_frame.specs.lowering_relation.Values.{Setting, is_scalar}
use Rattle.lower_frame.specs.lowering_relation.Sights.{left, not_in, is_tag}
use Rattle.lower_frame.specs.Frames.{kinds_reported}

-- a value of which this is known may have constructor n
abbrev pub may_be : Known → ℕ → Bool
may_be (Open out) n = not_in out n
may_be (Is h ks) n = is_tag h n

-- the scrutinee of type t, in register r, which holds this
abbrev pub with_root : Table → ℕ → Held → Known → ℕ → List Kind → List Kind
with_root w t H.Nothing k r kinds = kinds
with_root w t (H.Scalar u) k r kinds = kinds
with_root w t (H.Owned u b) k r kinds = slice_set kinds r (K.Owned t (left w t k))
with_root w t (H.Lent u root) k r kinds = slice_set kinds r (K.Lent t (left w t k) root None)
with_root w t (H.Credit n) k r kinds = kinds
with_root w t (H.Bare u c) k r kinds = kinds

-- field i, of type t, of the cell in register r, in the tree of a root
abbrev pub part_reported : Setting → Option ℕ → ℕ → Known → ℕ → ℕ → Kind
part_reported s root t k r i =
    if is_scalar s t then K.Scalar t
    else K.Lent t (left s.types t k) root (Some (record { register = r; field = i }))

-- what is below the scrutinee
module _ (s : Setting) (root : Option ℕ) (read : List ℕ) where
  abbrev mutual
    pub overlaid : ℕ → Known → Spot → List Kind → List Kind
    overlaid t (Open out) p kinds = kinds
    overlaid t (Is (Number i) ks) p kinds = kinds
    overlaid t (Is (Tag c) ks) p kinds = overlaid_all (fields s.types t c) ks (S.fields p) (S.register p) 0 kinds

    pub overlaid_all : List ℕ → Knowns → Spots → ℕ → ℕ → List Kind → List Kind
    overlaid_all ts NoKnowns ps r i kinds = kinds
    overlaid_all [] (MoreKnowns k ks) ps r i kinds = kinds
    overlaid_all (t ∷ ts) (MoreKnowns k ks) NoSpots r i kinds = kinds
    overlaid_all (t ∷ ts) (MoreKnowns k ks) (MoreSpots p ps) r i kinds =
        overlaid_all ts ks ps r (suc i) (if contains (S.register p) read
        then overlaid t k p (slice_set kinds (S.register p) (part_reported s root t k r i)) else kinds)

  -- a field that there may be
  abbrev pub field_overlaid : ℕ → Known → Option Spot → ℕ → ℕ → List Kind → List Kind
  field_overlaid t k None r i kinds = kinds
  field_overlaid t k (Some p) r i kinds =
      if contains (S.register p) read
      then overlaid t k p (slice_set kinds (S.register p) (part_reported s root t k r i)) else kinds

-- all registers, where the scrutinee is of type t and at this position
abbrev pub failed_reported : Setting → List Held → ℕ → Spot → Known → List ℕ → List Kind
failed_reported s hs t p k read =
    overlaid s (root_of (S.register p) (get_or hs (S.register p) H.Nothing)) read t k p
    (with_root s.types t (get_or hs (S.register p) H.Nothing) k (S.register p) (kinds_reported s.types hs))
