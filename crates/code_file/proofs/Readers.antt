-- The theorems of readers: one after the other, as many as counted, and where the least bad place is.
use Rattle.std.proofs.Common.{◌≡◌, ℕ, zero, suc, ◌+◌, ◌-◌, ◌<◌, ◌≤◌, List, [], ◌∷◌, ◌++◌, length, take, Option, Some, None, Bool, true, false, refl, sym, ap, ap₂, ◌∙◌, subst, append_assoc, arith}
use Rattle.std.specs.Prelude.{if◌then◌else◌}
use Rattle.std.proofs.lemmas.List.{append-nil}
use Rattle.fip_language.specs.Prefix.{Outcome, run, Accepted, Stopped, or_stop, end_outcome, Begins, IsPlace}
use Rattle.fip_language.proofs.Prefix.{IsExact, stops_at_place, accepts, accepted}
use Rattle.code_file.specs.Spelling.{◌+++◌, each, mark}
use Rattle.code_file.specs.Reading.{Reader, Give, Byte, ◌>>=◌, Answer, Got, Stop, read, and_then, with_front, whole, read_all, byte, times, counted}
use Rattle.fip_language.proofs.Facts.{if_some_both as guard}

-- the bytes are those of x, and then rest
abbrev pub Takes : {A : Type 0} → Reader A → List ℕ → A → List ℕ → Type 0
Takes (Give y) bs x rest = (bs ≡ rest) × (y ≡ x)
Takes (Byte may next) [] x rest = ⊥
Takes (Byte may next) (b ∷ bs) x rest = (may b ≡ true) × Takes (next b) bs x rest

-- each front that may occur can be completed
abbrev pub Alive : {A : Type 0} → Reader A → Type 0
Alive (Give x) = Unit {0}
Alive (Byte may next) = ((b : ℕ) × (may b ≡ true)) × ((b : ℕ) → may b ≡ true → Alive (next b))

-- the bytes are a text that is there, and then rest
abbrev pub Front : Option (List ℕ) → List ℕ → List ℕ → Type 0
Front None bs rest = ⊥
Front (Some t) bs rest = bs ≡ t ++ rest

-- The reader reads just these texts.
pub record IsField {A : Type 0} (r : Reader A) (text : A → Option (List ℕ)) : Type 0 where
  pub takes : (bs : List ℕ) (x : A) (rest : List ℕ) → Takes r bs x rest → Front (text x) bs rest
  pub gives : (bs : List ℕ) (x : A) (rest : List ℕ) → Front (text x) bs rest → Takes r bs x rest
  pub alive : Alive r

-- the reader as a machine
abbrev pub step : {A : Type 0} → Reader A → ℕ → Option (Reader A)
step (Give x) b = None
step (Byte may next) b = if may b then Some (next b) else None

abbrev pub final : {A : Type 0} → Reader A → Option A
final (Give x) = Some x
final (Byte may next) = None

abbrev pub Spells : {A : Type 0} → Reader A → List ℕ → A → Type 0
Spells r bs x = Takes r bs x []

module _ {A : Type 0} where
  reader_takes : (r : Reader A) (b : ℕ) (bs : List ℕ) (x : A) → Spells r (b ∷ bs) x → (r' : Reader A) × (step r b ≡ Some r') × Spells r' bs x
  reader_takes (Give y) b bs x h = let e = h.0 in cc
  reader_takes (Byte may next) b bs x h = (next b, ap (λ t. if t then Some (next b) else None) h.0, h.1)

  reader_gives : (r r' : Reader A) (b : ℕ) (bs : List ℕ) (x : A) → step r b ≡ Some r' → Spells r' bs x → Spells r (b ∷ bs) x
  reader_gives (Give y) r' b bs x e h = cc
  reader_gives (Byte may next) r' b bs x e h = let g = guard (may b) (next b) r' e in (g.0, subst (λ r. Spells r bs x) (sym g.1) h)

  reader_keeps : (r r' : Reader A) (b : ℕ) → Alive r → step r b ≡ Some r' → Alive r'
  reader_keeps (Give y) r' b a e = cc
  reader_keeps (Byte may next) r' b a e = let g = guard (may b) (next b) r' e in subst Alive g.1 (a.1 b g.0)

  reader_alive : (r : Reader A) → Alive r → (bs : List ℕ) × (x : A) × Spells r bs x
  reader_alive (Give x) a = ([], x, (refl, refl))
  reader_alive (Byte may next) a =
      let b = a.0 in
      let h = reader_alive (next b.0) (a.1 b.0 b.1) in
      (b.0 ∷ h.0, h.1, (b.1, h.2))

  reader_ends : (r : Reader A) (x : A) → Spells r [] x → final r ≡ Some x
  reader_ends (Give y) x h = ap Some h.1
  reader_ends (Byte may next) x h = absurd h

  some_same : (x y : A) → Some x ≡ Some y → x ≡ y
  some_same x y e = cc

  reader_ended : (r : Reader A) (x : A) → final r ≡ Some x → Spells r [] x
  reader_ended (Give y) x e = (refl, some_same y x e)
  reader_ended (Byte may next) x e = cc

  pub exact : IsExact {V = A} step final Alive Spells
  exact = record {
    takes = λ r b bs x a h. reader_takes r b bs x h;
    gives = λ r r' b bs x a e h. reader_gives r r' b bs x e h;
    keeps = reader_keeps;
    alive = reader_alive;
    ends = λ r x a h. reader_ends r x h;
    ended = λ r x a e. reader_ended r x e;
  }

-- reading is what the machine does
abbrev pub Agree : {A : Type 0} → Answer A → Outcome A → ℕ → Type 0
Agree (Stop left) o size = (t : ℕ) × (t + left ≡ size) × (o ≡ Stopped t)
Agree (Got x rest) o size = o ≡ Accepted x

if_run : {A : Type 0} → (t : Bool) (next : Reader A) (bs : List ℕ) (at : ℕ) → Agree (read_all next bs) (run step final next bs (at + 1)) ((at + 1) + length bs) → Agree (and_then (if t then read next bs else Stop (suc (length bs))) whole) (or_stop (if t then Some next else None) at (λ r. run step final r bs (at + 1))) ((at + 1) + length bs)
if_run true next bs at h = h
if_run false next bs at h = (at, omega arith, refl)

read_run : {A : Type 0} → (r : Reader A) (bs : List ℕ) (at : ℕ) → Agree (read_all r bs) (run step final r bs at) (at + length bs)
read_run (Give x) [] at = refl
read_run (Give x) (b ∷ bs) at = (at, omega arith, refl)
read_run (Byte may next) [] at = (at, omega arith, refl)
read_run (Byte may next) (b ∷ bs) at =
    let e : (at + 1) + length bs ≡ at + length (b ∷ bs) = omega arith in
    subst (Agree (read_all (Byte may next) (b ∷ bs)) (run step final (Byte may next) (b ∷ bs) at)) e (if_run (may b) (next b) bs at (read_run (next b) bs (at + 1)))

left_within : {A : Type 0} → (a : Answer A) (o : Outcome A) (left size : ℕ) → Agree a o size → a ≡ Stop left → left ≤ size
left_within (Stop l) o left size h e = let k : l ≡ left = cc in omega (arith, h.1)
left_within (Got x rest) o left size h e = cc

-- Where nothing fits any more no text begins so.
pub stop_place : {A : Type 0} → (r : Reader A) → Alive r → (bs : List ℕ) (left : ℕ) → read_all r bs ≡ Stop left → IsPlace (Spells r) bs (length bs - left)
stop_place r a bs left e =
    let le : left ≤ 0 + length bs = left_within (read_all r bs) (run step final r bs 0) left (0 + length bs) (read_run r bs 0) e in
    let k = subst (λ o. Agree o (run step final r bs 0) (0 + length bs)) e (read_run r bs 0) in
    let same : k.0 ≡ length bs - left = omega (arith, k.1) in
    stops_at_place step final Alive Spells exact r bs (length bs - left) a (k.2 ∙ ap Stopped same)

pub got_spells : {A : Type 0} → (r : Reader A) → Alive r → (bs rest : List ℕ) (x : A) → read_all r bs ≡ Got x rest → Spells r bs x
got_spells r a bs rest x e = accepted step final Alive Spells exact bs x r 0 a (subst (λ o. Agree o (run step final r bs 0) (0 + length bs)) e (read_run r bs 0))

answer_is : {A : Type 0} → (a : Answer A) (x : A) (size : ℕ) → Agree a (Accepted x) size → (r : List ℕ) × (a ≡ Got x r)
answer_is (Stop left) x size h = let e = h.2 in cc
answer_is (Got y r) x size h = (r, cc)

-- What is encoded is read.
pub spells_got : {A : Type 0} → (r : Reader A) → Alive r → (bs : List ℕ) (x : A) → Spells r bs x → (rest : List ℕ) × (read_all r bs ≡ Got x rest)
spells_got r a bs x h =
    let e = accepts step final Alive Spells exact bs r 0 x a h in
    answer_is (read_all r bs) x (0 + length bs) (subst (λ o. Agree (read_all r bs) o (0 + length bs)) e (read_run r bs 0))

-- one reader and then another
pub bind_takes : {A B : Type 0} → (r : Reader A) (f : A → Reader B) (bs : List ℕ) (y : B) (rest : List ℕ) → Takes (r >>= f) bs y rest → (x : A) × (mid : List ℕ) × Takes r bs x mid × Takes (f x) mid y rest
bind_takes (Give x) f bs y rest h = (x, bs, (refl, refl), h)
bind_takes (Byte may next) f [] y rest h = absurd h
bind_takes (Byte may next) f (b ∷ bs) y rest h = let k = bind_takes (next b) f bs y rest h.1 in (k.0, k.1, (h.0, k.2), k.3)

pub bind_gives : {A B : Type 0} → (r : Reader A) (f : A → Reader B) (bs mid : List ℕ) (x : A) (y : B) (rest : List ℕ) → Takes r bs x mid → Takes (f x) mid y rest → Takes (r >>= f) bs y rest
bind_gives (Give z) f bs mid x y rest h k = subst (λ z. Takes (f z) bs y rest) (sym h.1) (subst (λ m. Takes (f x) m y rest) (sym h.0) k)
bind_gives (Byte may next) f [] mid x y rest h k = absurd h
bind_gives (Byte may next) f (b ∷ bs) mid x y rest h k = (h.0, bind_gives (next b) f bs mid x y rest h.1 k)

-- it can be completed where the first can, and the second after each value of the first
pub bind_alive : {A B : Type 0} → (r : Reader A) (f : A → Reader B) → Alive r → ((x : A) (bs rest : List ℕ) → Takes r bs x rest → Alive (f x)) → Alive (r >>= f)
bind_alive (Give x) f a g = g x [] [] (refl, refl)
bind_alive (Byte may next) f a g = (a.0, λ b e. bind_alive (next b) f (a.1 b e) (λ x bs rest t. g x (b ∷ bs) rest (e, t)))

-- the same where the second can always be completed
pub then_alive : {A B : Type 0} → (r : Reader A) (f : A → Reader B) → Alive r → ((x : A) → Alive (f x)) → Alive (r >>= f)
then_alive r f a g = bind_alive r f a (λ x bs rest t. g x)

if_then : {A B : Type 0} → (t : Bool) (a : Answer A) (b : Answer B) (left : ℕ) (f : A → List ℕ → Answer B) → b ≡ and_then a f → (if t then b else Stop left) ≡ and_then (if t then a else Stop left) f
if_then true a b left f e = e
if_then false a b left f e = refl

pub read_bind : {A B : Type 0} → (r : Reader A) (f : A → Reader B) (bs : List ℕ) → read (r >>= f) bs ≡ and_then (read r bs) (λ x rest. read (f x) rest)
read_bind (Give x) f bs = refl
read_bind (Byte may next) f [] = refl
read_bind (Byte may next) f (b ∷ bs) = if_then (may b) (read (next b) bs) (read (next b >>= f) bs) (suc (length bs)) (λ x rest. read (f x) rest) (read_bind (next b) f bs)

pub bind_got : {A B : Type 0} → (r : Reader A) (f : A → Reader B) (bs : List ℕ) (x : A) (rest : List ℕ) → read r bs ≡ Got x rest → read (r >>= f) bs ≡ read (f x) rest
bind_got r f bs x rest e = read_bind r f bs ∙ ap (λ a. and_then a (λ x rest. read (f x) rest)) e

pub bind_stop : {A B : Type 0} → (r : Reader A) (f : A → Reader B) (bs : List ℕ) (left : ℕ) → read r bs ≡ Stop left → read (r >>= f) bs ≡ Stop left
bind_stop r f bs left e = read_bind r f bs ∙ ap (λ a. and_then a (λ x rest. read (f x) rest)) e

-- What two readers, one after the other, read.
pub ruleset binds = (bind_got, bind_stop)

-- a text after another
pub front_join : (a b : Option (List ℕ)) (bs mid rest : List ℕ) → Front a bs mid → Front b mid rest → Front (a +++ b) bs rest
unfolding ◌+++◌
front_join None b bs mid rest h k = absurd h
front_join (Some s) None bs mid rest h k = absurd k
front_join (Some s) (Some t) bs mid rest h k = h ∙ ap (λ m. s ++ m) k ∙ sym (append_assoc s t rest)

pub front_split : (a b : Option (List ℕ)) (bs rest : List ℕ) → Front (a +++ b) bs rest → (mid : List ℕ) × Front a bs mid × Front b mid rest
unfolding ◌+++◌
front_split None b bs rest h = absurd h
front_split (Some s) None bs rest h = absurd h
front_split (Some s) (Some t) bs rest h = (t ++ rest, h ∙ append_assoc s t rest, refl)

-- Readers of several fields, whose values are put together.
module _ {A Z : Type 0} (ra : Reader A) (a : A → Option (List ℕ)) (fa : IsField ra a) where
  pub takes1 : (to : A → Z) (bs : List ℕ) (z : Z) (rest : List ℕ) → Takes (ra >>= λ x. Give (to x)) bs z rest → (x : A) × (to x ≡ z) × Front (a x) bs rest
  takes1 to bs z rest h =
      let p = bind_takes ra (λ x. Give (to x)) bs z rest h in
      let e = p.3 in
      (p.0, e.1, subst (λ m. Front (a p.0) bs m) e.0 (fa.takes bs p.0 p.1 p.2))

  pub gives1 : (to : A → Z) (x : A) (bs rest : List ℕ) → Front (a x) bs rest → Takes (ra >>= λ x. Give (to x)) bs (to x) rest
  gives1 to x bs rest h = bind_gives ra (λ x. Give (to x)) bs rest x (to x) rest (fa.gives bs x rest h) (refl, refl)

  pub alive1 : (to : A → Z) → Alive (ra >>= λ x. Give (to x))
  alive1 to = then_alive ra (λ x. Give (to x)) fa.alive (λ x. tt)

module _ {A B Z : Type 0} (ra : Reader A) (a : A → Option (List ℕ)) (fa : IsField ra a) (rb : Reader B) (b : B → Option (List ℕ)) (fb : IsField rb b) where
  pub takes2 : (to : A → B → Z) (bs : List ℕ) (z : Z) (rest : List ℕ) → Takes (ra >>= λ x. rb >>= λ y. Give (to x y)) bs z rest → (x : A) × (y : B) × (to x y ≡ z) × Front (a x +++ b y) bs rest
  takes2 to bs z rest h =
      let p = bind_takes ra (λ x. rb >>= λ y. Give (to x y)) bs z rest h in
      let k = takes1 rb b fb (to p.0) p.1 z rest p.3 in
      (p.0, k.0, k.1, front_join (a p.0) (b k.0) bs p.1 rest (fa.takes bs p.0 p.1 p.2) k.2)

  pub gives2 : (to : A → B → Z) (x : A) (y : B) (bs rest : List ℕ) → Front (a x +++ b y) bs rest → Takes (ra >>= λ x. rb >>= λ y. Give (to x y)) bs (to x y) rest
  gives2 to x y bs rest h =
      let p = front_split (a x) (b y) bs rest h in
      bind_gives ra (λ x. rb >>= λ y. Give (to x y)) bs p.0 x (to x y) rest (fa.gives bs x p.0 p.1) (gives1 rb b fb (to x) y p.0 rest p.2)

  pub alive2 : (to : A → B → Z) → Alive (ra >>= λ x. rb >>= λ y. Give (to x y))
  alive2 to = then_alive ra (λ x. rb >>= λ y. Give (to x y)) fa.alive (λ x. alive1 rb b fb (to x))

module _ {A B C Z : Type 0} (ra : Reader A) (a : A → Option (List ℕ)) (fa : IsField ra a) (rb : Reader B) (b : B → Option (List ℕ)) (fb : IsField rb b) (rc : Reader C) (c : C → Option (List ℕ)) (fc : IsField rc c) where
  pub takes3 : (to : A → B → C → Z) (bs : List ℕ) (z : Z) (rest : List ℕ) → Takes (ra >>= λ x. rb >>= λ y. rc >>= λ u. Give (to x y u)) bs z rest → (x : A) × (y : B) × (u : C) × (to x y u ≡ z) × Front (a x +++ b y +++ c u) bs rest
  takes3 to bs z rest h =
      let p = bind_takes ra (λ x. rb >>= λ y. rc >>= λ u. Give (to x y u)) bs z rest h in
      let k = takes2 rb b fb rc c fc (to p.0) p.1 z rest p.3 in
      (p.0, k.0, k.1, k.2, front_join (a p.0) (b k.0 +++ c k.1) bs p.1 rest (fa.takes bs p.0 p.1 p.2) k.3)

  pub gives3 : (to : A → B → C → Z) (x : A) (y : B) (u : C) (bs rest : List ℕ) → Front (a x +++ b y +++ c u) bs rest → Takes (ra >>= λ x. rb >>= λ y. rc >>= λ u. Give (to x y u)) bs (to x y u) rest
  gives3 to x y u bs rest h =
      let p = front_split (a x) (b y +++ c u) bs rest h in
      bind_gives ra (λ x. rb >>= λ y. rc >>= λ u. Give (to x y u)) bs p.0 x (to x y u) rest (fa.gives bs x p.0 p.1) (gives2 rb b fb rc c fc (to x) y u p.0 rest p.2)

  pub alive3 : (to : A → B → C → Z) → Alive (ra >>= λ x. rb >>= λ y. rc >>= λ u. Give (to x y u))
  alive3 to = then_alive ra (λ x. rb >>= λ y. rc >>= λ u. Give (to x y u)) fa.alive (λ x. alive2 rb b fb rc c fc (to x))

module _ {A B C D Z : Type 0} (ra : Reader A) (a : A → Option (List ℕ)) (fa : IsField ra a) (rb : Reader B) (b : B → Option (List ℕ)) (fb : IsField rb b) (rc : Reader C) (c : C → Option (List ℕ)) (fc : IsField rc c) (rd : Reader D) (d : D → Option (List ℕ)) (fd : IsField rd d) where
  pub takes4 : (to : A → B → C → D → Z) (bs : List ℕ) (z : Z) (rest : List ℕ) → Takes (ra >>= λ x. rb >>= λ y. rc >>= λ u. rd >>= λ v. Give (to x y u v)) bs z rest → (x : A) × (y : B) × (u : C) × (v : D) × (to x y u v ≡ z) × Front (a x +++ b y +++ c u +++ d v) bs rest
  takes4 to bs z rest h =
      let p = bind_takes ra (λ x. rb >>= λ y. rc >>= λ u. rd >>= λ v. Give (to x y u v)) bs z rest h in
      let k = takes3 rb b fb rc c fc rd d fd (to p.0) p.1 z rest p.3 in
      (p.0, k.0, k.1, k.2, k.3, front_join (a p.0) (b k.0 +++ c k.1 +++ d k.2) bs p.1 rest (fa.takes bs p.0 p.1 p.2) k.4)

  pub gives4 : (to : A → B → C → D → Z) (x : A) (y : B) (u : C) (v : D) (bs rest : List ℕ) → Front (a x +++ b y +++ c u +++ d v) bs rest → Takes (ra >>= λ x. rb >>= λ y. rc >>= λ u. rd >>= λ v. Give (to x y u v)) bs (to x y u v) rest
  gives4 to x y u v bs rest h =
      let p = front_split (a x) (b y +++ c u +++ d v) bs rest h in
      bind_gives ra (λ x. rb >>= λ y. rc >>= λ u. rd >>= λ v. Give (to x y u v)) bs p.0 x (to x y u v) rest (fa.gives bs x p.0 p.1) (gives3 rb b fb rc c fc rd d fd (to x) y u v p.0 rest p.2)

  pub alive4 : (to : A → B → C → D → Z) → Alive (ra >>= λ x. rb >>= λ y. rc >>= λ u. rd >>= λ v. Give (to x y u v))
  alive4 to = then_alive ra (λ x. rb >>= λ y. rc >>= λ u. rd >>= λ v. Give (to x y u v)) fa.alive (λ x. alive3 rb b fb rc c fc rd d fd (to x))

module _ {A B C D E Z : Type 0} (ra : Reader A) (a : A → Option (List ℕ)) (fa : IsField ra a) (rb : Reader B) (b : B → Option (List ℕ)) (fb : IsField rb b) (rc : Reader C) (c : C → Option (List ℕ)) (fc : IsField rc c) (rd : Reader D) (d : D → Option (List ℕ)) (fd : IsField rd d) (re : Reader E) (e : E → Option (List ℕ)) (fe : IsField re e) where
  pub takes5 : (to : A → B → C → D → E → Z) (bs : List ℕ) (z : Z) (rest : List ℕ) → Takes (ra >>= λ x. rb >>= λ y. rc >>= λ u. rd >>= λ v. re >>= λ w. Give (to x y u v w)) bs z rest → (x : A) × (y : B) × (u : C) × (v : D) × (w : E) × (to x y u v w ≡ z) × Front (a x +++ b y +++ c u +++ d v +++ e w) bs rest
  takes5 to bs z rest h =
      let p = bind_takes ra (λ x. rb >>= λ y. rc >>= λ u. rd >>= λ v. re >>= λ w. Give (to x y u v w)) bs z rest h in
      let k = takes4 rb b fb rc c fc rd d fd re e fe (to p.0) p.1 z rest p.3 in
      (p.0, k.0, k.1, k.2, k.3, k.4, front_join (a p.0) (b k.0 +++ c k.1 +++ d k.2 +++ e k.3) bs p.1 rest (fa.takes bs p.0 p.1 p.2) k.5)

  pub gives5 : (to : A → B → C → D → E → Z) (x : A) (y : B) (u : C) (v : D) (w : E) (bs rest : List ℕ) → Front (a x +++ b y +++ c u +++ d v +++ e w) bs rest → Takes (ra >>= λ x. rb >>= λ y. rc >>= λ u. rd >>= λ v. re >>= λ w. Give (to x y u v w)) bs (to x y u v w) rest
  gives5 to x y u v w bs rest h =
      let p = front_split (a x) (b y +++ c u +++ d v +++ e w) bs rest h in
      bind_gives ra (λ x. rb >>= λ y. rc >>= λ u. rd >>= λ v. re >>= λ w. Give (to x y u v w)) bs p.0 x (to x y u v w) rest (fa.gives bs x p.0 p.1) (gives4 rb b fb rc c fc rd d fd re e fe (to x) y u v w p.0 rest p.2)

  pub alive5 : (to : A → B → C → D → E → Z) → Alive (ra >>= λ x. rb >>= λ y. rc >>= λ u. rd >>= λ v. re >>= λ w. Give (to x y u v w))
  alive5 to = then_alive ra (λ x. rb >>= λ y. rc >>= λ u. rd >>= λ v. re >>= λ w. Give (to x y u v w)) fa.alive (λ x. alive4 rb b fb rc c fc rd d fd re e fe (to x))

module _ {A B C D E F Z : Type 0} (ra : Reader A) (a : A → Option (List ℕ)) (fa : IsField ra a) (rb : Reader B) (b : B → Option (List ℕ)) (fb : IsField rb b) (rc : Reader C) (c : C → Option (List ℕ)) (fc : IsField rc c) (rd : Reader D) (d : D → Option (List ℕ)) (fd : IsField rd d) (re : Reader E) (e : E → Option (List ℕ)) (fe : IsField re e) (rf : Reader F) (f : F → Option (List ℕ)) (ff : IsField rf f) where
  pub takes6 : (to : A → B → C → D → E → F → Z) (bs : List ℕ) (z : Z) (rest : List ℕ) → Takes (ra >>= λ x. rb >>= λ y. rc >>= λ u. rd >>= λ v. re >>= λ w. rf >>= λ t. Give (to x y u v w t)) bs z rest → (x : A) × (y : B) × (u : C) × (v : D) × (w : E) × (t : F) × (to x y u v w t ≡ z) × Front (a x +++ b y +++ c u +++ d v +++ e w +++ f t) bs rest
  takes6 to bs z rest h =
      let p = bind_takes ra (λ x. rb >>= λ y. rc >>= λ u. rd >>= λ v. re >>= λ w. rf >>= λ t. Give (to x y u v w t)) bs z rest h in
      let k = takes5 rb b fb rc c fc rd d fd re e fe rf f ff (to p.0) p.1 z rest p.3 in
      (p.0, k.0, k.1, k.2, k.3, k.4, k.5, front_join (a p.0) (b k.0 +++ c k.1 +++ d k.2 +++ e k.3 +++ f k.4) bs p.1 rest (fa.takes bs p.0 p.1 p.2) k.6)

  pub gives6 : (to : A → B → C → D → E → F → Z) (x : A) (y : B) (u : C) (v : D) (w : E) (t : F) (bs rest : List ℕ) → Front (a x +++ b y +++ c u +++ d v +++ e w +++ f t) bs rest → Takes (ra >>= λ x. rb >>= λ y. rc >>= λ u. rd >>= λ v. re >>= λ w. rf >>= λ t. Give (to x y u v w t)) bs (to x y u v w t) rest
  gives6 to x y u v w t bs rest h =
      let p = front_split (a x) (b y +++ c u +++ d v +++ e w +++ f t) bs rest h in
      bind_gives ra (λ x. rb >>= λ y. rc >>= λ u. rd >>= λ v. re >>= λ w. rf >>= λ t. Give (to x y u v w t)) bs p.0 x (to x y u v w t) rest (fa.gives bs x p.0 p.1) (gives5 rb b fb rc c fc rd d fd re e fe rf f ff (to x) y u v w t p.0 rest p.2)

  pub alive6 : (to : A → B → C → D → E → F → Z) → Alive (ra >>= λ x. rb >>= λ y. rc >>= λ u. rd >>= λ v. re >>= λ w. rf >>= λ t. Give (to x y u v w t))
  alive6 to = then_alive ra (λ x. rb >>= λ y. rc >>= λ u. rd >>= λ v. re >>= λ w. rf >>= λ t. Give (to x y u v w t)) fa.alive (λ x. alive5 rb b fb rc c fc rd d fd re e fe rf f ff (to x))

-- As many as counted.
module _ {A : Type 0} (r : Reader A) (text : A → Option (List ℕ)) (one : IsField r text) where
  times_takes : (n : ℕ) (bs : List ℕ) (xs : List A) (rest : List ℕ) → Takes (times n r) bs xs rest → Front (each text xs) bs rest × (length xs ≡ n)
  unfolding times each
  times_takes zero bs xs rest h = subst (λ xs. Front (each text xs) bs rest × (length xs ≡ 0)) h.1 (h.0, refl)
  times_takes (suc n) bs xs rest h =
      let a = bind_takes r (λ x. times n r >>= λ xs. Give (x ∷ xs)) bs xs rest h in
      let b = bind_takes (times n r) (λ xs. Give (a.0 ∷ xs)) a.1 xs rest a.3 in
      let u = times_takes n a.1 b.0 b.1 b.2 in
      let e = b.3 in
      let tail : Front (each text b.0) a.1 rest = subst (λ m. Front (each text b.0) a.1 m) e.0 u.0 in
      subst (λ xs. Front (each text xs) bs rest × (length xs ≡ suc n)) e.1
      (front_join (text a.0) (each text b.0) bs a.1 rest (one.takes bs a.0 a.1 a.2) tail, omega (arith, u.1))

  times_gives : (n : ℕ) (bs : List ℕ) (xs : List A) (rest : List ℕ) → length xs ≡ n → Front (each text xs) bs rest → Takes (times n r) bs xs rest
  unfolding times each
  times_gives zero bs [] rest e h = (h, refl)
  times_gives zero bs (x ∷ xs) rest e h = absurd (omega arith)
  times_gives (suc n) bs [] rest e h = absurd (omega arith)
  times_gives (suc n) bs (x ∷ xs) rest e h =
      let p = front_split (text x) (each text xs) bs rest h in
      bind_gives r (λ x. times n r >>= λ xs. Give (x ∷ xs)) bs p.0 x (x ∷ xs) rest (one.gives bs x p.0 p.1)
      (bind_gives (times n r) (λ xs. Give (x ∷ xs)) p.0 rest xs (x ∷ xs) rest (times_gives n p.0 xs rest (omega arith) p.2) (refl, refl))

  pub times_alive : (n : ℕ) → Alive (times n r)
  unfolding times
  times_alive zero = tt
  times_alive (suc n) = then_alive r (λ x. times n r >>= λ xs. Give (x ∷ xs)) one.alive (λ x. then_alive (times n r) (λ xs. Give (x ∷ xs)) (times_alive n) (λ xs. tt))

  pub takes_times : (n : ℕ) (bs : List ℕ) (xs : List A) (rest : List ℕ) → Takes (times n r) bs xs rest → Front (each text xs) bs rest × (length xs ≡ n)
  takes_times n bs xs rest h = times_takes n bs xs rest h

  pub gives_times : (n : ℕ) (bs : List ℕ) (xs : List A) (rest : List ℕ) → length xs ≡ n → Front (each text xs) bs rest → Takes (times n r) bs xs rest
  gives_times n bs xs rest e h = times_gives n bs xs rest e h

  -- a count, and as many
  module _ (count : Reader ℕ) (digits : ℕ → Option (List ℕ)) (head : IsField count digits) where
    pub field_counted : IsField (counted count r) (λ xs. digits (length xs) +++ each text xs)
    field_counted = record {
      takes = λ bs xs rest h.
          let p = bind_takes count (λ n. times n r) bs xs rest h in
          let u = times_takes p.0 p.1 xs rest p.3 in
          front_join (digits (length xs)) (each text xs) bs p.1 rest (subst (λ n. Front (digits n) bs p.1) (sym u.1) (head.takes bs p.0 p.1 p.2)) u.0;
      gives = λ bs xs rest h.
          let p = front_split (digits (length xs)) (each text xs) bs rest h in
          bind_gives count (λ n. times n r) bs p.0 (length xs) xs rest (head.gives bs (length xs) p.0 p.1) (times_gives (length xs) p.0 xs rest refl p.2);
      alive = then_alive count (λ n. times n r) head.alive times_alive;
    }

-- A loop over a count.
with_more : {A : Type 0} → (xs : List A) (x : A) (a : Answer (List A)) → with_front xs (and_then a (λ ys rest. Got (x ∷ ys) rest)) ≡ with_front (xs ++ x ∷ []) a
with_more xs x (Stop left) = refl
with_more xs x (Got ys rest) = ap (λ zs. Got zs rest) (sym (append_assoc xs (x ∷ []) ys))

pub times_got : {A : Type 0} → (r : Reader A) (n i : ℕ) (bs rest : List ℕ) (xs : List A) (x : A) → i < n → read r bs ≡ Got x rest → with_front xs (read (times (n - i) r) bs) ≡ with_front (xs ++ x ∷ []) (read (times (n - (i + 1)) r) rest)
unfolding times
times_got {A = A} r n i bs rest xs x lt e =
    let m = n - (i + 1) in
    let s : n - i ≡ suc m = omega arith in
    ap (λ k. with_front xs (read (times k r) bs)) s ∙ ap (with_front xs) (bind_got r (λ x. times m r >>= λ xs. Give (x ∷ xs)) bs x rest e ∙ read_bind (times m r) (λ xs. Give (x ∷ xs)) rest) ∙ with_more xs x (read (times m r) rest)

pub times_stop : {A : Type 0} → (r : Reader A) (n i : ℕ) (bs : List ℕ) (xs : List A) (left : ℕ) → i < n → read r bs ≡ Stop left → with_front xs (read (times (n - i) r) bs) ≡ Stop left
unfolding times
times_stop {A = A} r n i bs xs left lt e =
    let m = n - (i + 1) in
    let s : n - i ≡ suc m = omega arith in
    ap (λ k. with_front xs (read (times k r) bs)) s ∙ ap (with_front xs) (bind_stop r (λ x. times m r >>= λ xs. Give (x ∷ xs)) bs left e)

pub times_done : {A : Type 0} → (r : Reader A) (n i : ℕ) (bs : List ℕ) (xs : List A) → n ≤ i → with_front xs (read (times (n - i) r) bs) ≡ Got xs bs
unfolding times
times_done r n i bs xs le =
    let z : n - i ≡ 0 = omega arith in
    ap (λ k. with_front xs (read (times k r) bs)) z ∙ ap (λ zs. Got zs bs) (append-nil xs)
