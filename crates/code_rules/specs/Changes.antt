-- What becomes of all registers where one is written, becomes Gone, is used up or is tested.
--
-- Whenever a register is written or becomes Gone, every from that names it becomes none, also that of its own new kind.
-- Using up an owned register makes it and every register with it as root Gone.
--
-- Where register 0 owns a tree and register 1 is borrowed as field 0 of its cell, `used_up ks 0` makes both Gone, and
-- `written ks 0 k` only forgets where the word of register 1 came from.
use Rattle.std.specs.Prelude.{ℕ, Bool, ◌||◌, List, [], ◌∷◌, Option, Some, None, map, length, if◌then◌else◌, ◌==◌}
use Rattle.cell_code.specs.declared.kind.From.{From}
use Rattle.cell_code.specs.declared.kind.Kind.{Kind}
use Rattle.cell_code.specs.declared.kind.Kind.TheVariants.{Gone, Scalar, Owned, Lent, Credit}
use Rattle.code_rules.specs.Types.{numbers}
use Rattle.code_rules.specs.Kinds.{at, is_lent_of}

-- Each register q of these kinds becomes `new q`.
abbrev pub become : List Kind → (ℕ → Kind) → List Kind
become ks new = map new (numbers 0 (length ks))

abbrev pub forget_from : (ℕ → Bool) → Option From → Option From
forget_from p None = None
forget_from p (Some f) = if p f.register then None else Some f

-- A from that names one of these registers becomes none.
abbrev pub forget : (ℕ → Bool) → Kind → Kind
forget p Gone = Gone
forget p (Scalar t) = Scalar t
forget p (Owned t s) = Owned t s
forget p (Lent t s root from) = Lent t s root (forget_from p from)
forget p (Credit k) = Credit k

-- Register d gets kind k.
abbrev pub written : List Kind → ℕ → Kind → List Kind
written ks d k = become ks (λ q. forget (λ r. r == d) (if q == d then k else at ks q))

-- register r, and what is borrowed from it
abbrev pub goes : List Kind → ℕ → ℕ → Bool
goes ks r q = (q == r) || is_lent_of r (at ks q)

abbrev pub used_up : List Kind → ℕ → List Kind
used_up ks r = become ks (λ q. if goes ks r q then Gone else forget (goes ks r) (at ks q))

-- Register s gives its word away: a tree is used up, a credit is Gone, and all else stays.
abbrev pub moved_by : List Kind → ℕ → Kind → List Kind
moved_by ks s Gone = ks
moved_by ks s (Scalar t) = ks
moved_by ks s (Owned t c) = used_up ks s
moved_by ks s (Lent t c root from) = ks
moved_by ks s (Credit k) = written ks s Gone

abbrev pub moved : List Kind → ℕ → List Kind
moved ks s = moved_by ks s (at ks s)

-- Its root has one of these constructors.
abbrev pub narrow : List ℕ → Kind → Kind
narrow c Gone = Gone
narrow c (Scalar t) = Scalar t
narrow c (Owned t s) = Owned t c
narrow c (Lent t s root from) = Lent t c root from
narrow c (Credit k) = Credit k

-- the numbers of a list but one
abbrev pub without : ℕ → List ℕ → List ℕ
without c [] = []
without c (x ∷ xs) = if x == c then without c xs else x ∷ without c xs

-- Register r was tested, and the root of its tree has one of these constructors. Nothing is written.
abbrev pub tested : List Kind → ℕ → List ℕ → List Kind
tested ks r c = become ks (λ q. if q == r then narrow c (at ks q) else at ks q)
