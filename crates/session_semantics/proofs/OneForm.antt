-- What is written in a line is one thing.
use Rattle.std.proofs.Common.{◌≡◌, ℕ, ℤ, List, [], ◌∷◌, Bool, true, false, refl, sym, ap, ◌∙◌, subst}
use Rattle.command_outcome.specs.fip_language.Core.{Name}
use Rattle.session_semantics.specs.Lines.{Symbol, Blank, Open, Close, Comma, Equals, Question, Minus, Underscore, Digit, Small, Capital, Other}
use Rattle.session_semantics.specs.Lines.{symbols, skip, following, BeginsSmall, BeginsCapital, NameText, SignText}
use Rattle.session_semantics.specs.Lines.{Written, Number, Named, Parts, NoParts, MoreParts, DigitsText, NumberText, IsOpened}
use Rattle.session_semantics.specs.Lines.{WrittenText, PartsText, FurtherText, Given, Held, Fresh, GivenText, MoreGivenText, AllGivenText}
use Rattle.session_semantics.specs.Lines.{MoreNamesText, CallText, Line, Calls, Shows, GivesUp, MarkedText, LineText, SpellsLine, fresh_of, SpellsTask}

pub name_once : (cs r q : List Symbol) (n m : Name) → NameText cs n r → NameText cs m q → (n ≡ m) × (r ≡ q)
name_once cs r q n m a b = (a.is ∙ sym b.is, a.then' ∙ sym b.then')

abbrev rest_of : List Symbol → List Symbol
rest_of [] = []
rest_of (c ∷ cs) = cs

pub sign_once : (s : Symbol) (cs r q : List Symbol) → SignText s cs r → SignText s cs q → r ≡ q
sign_once s cs r q a b = ap rest_of (sym a ∙ b)

-- which sign is in front
abbrev is_close : List Symbol → Bool
is_close (Close ∷ cs) = true
is_close cs = false

pub close_is_no_comma : (cs r q : List Symbol) → SignText Close cs r → SignText Comma cs q → ⊥
close_is_no_comma cs r q a b = let e : true ≡ false = ap is_close (sym a ∙ b) in absurd cc

digits_once : (negative : Bool) (cs r q : List Symbol) (i j : ℤ) → DigitsText negative cs i r → DigitsText negative cs j q → (i ≡ j) × (r ≡ q)
digits_once negative (Digit d ∷ cs) r q i j a b = (a.0 ∙ sym b.0, a.1 ∙ sym b.1)
digits_once negative [] r q i j a b = absurd a
digits_once negative (Blank ∷ cs) r q i j a b = absurd a
digits_once negative (Open ∷ cs) r q i j a b = absurd a
digits_once negative (Close ∷ cs) r q i j a b = absurd a
digits_once negative (Comma ∷ cs) r q i j a b = absurd a
digits_once negative (Equals ∷ cs) r q i j a b = absurd a
digits_once negative (Question ∷ cs) r q i j a b = absurd a
digits_once negative (Minus ∷ cs) r q i j a b = absurd a
digits_once negative (Underscore ∷ cs) r q i j a b = absurd a
digits_once negative (Small c ∷ cs) r q i j a b = absurd a
digits_once negative (Capital c ∷ cs) r q i j a b = absurd a
digits_once negative (Other ∷ cs) r q i j a b = absurd a

number_once : (cs r q : List Symbol) (i j : ℤ) → NumberText cs i r → NumberText cs j q → (i ≡ j) × (r ≡ q)
number_once (Minus ∷ cs) r q i j a b = digits_once true cs r q i j a b
number_once [] r q i j a b = absurd a
number_once (Digit d ∷ cs) r q i j a b = digits_once false (Digit d ∷ cs) r q i j a b
number_once (Blank ∷ cs) r q i j a b = absurd a
number_once (Open ∷ cs) r q i j a b = absurd a
number_once (Close ∷ cs) r q i j a b = absurd a
number_once (Comma ∷ cs) r q i j a b = absurd a
number_once (Equals ∷ cs) r q i j a b = absurd a
number_once (Question ∷ cs) r q i j a b = absurd a
number_once (Underscore ∷ cs) r q i j a b = absurd a
number_once (Small c ∷ cs) r q i j a b = absurd a
number_once (Capital c ∷ cs) r q i j a b = absurd a
number_once (Other ∷ cs) r q i j a b = absurd a

pub number_is_no_name : (cs r : List Symbol) (i : ℤ) → NumberText cs i r → BeginsCapital cs → ⊥
number_is_no_name (Capital c ∷ cs) r i a b = absurd a
number_is_no_name [] r i a b = absurd b
number_is_no_name (Digit d ∷ cs) r i a b = absurd b
number_is_no_name (Minus ∷ cs) r i a b = absurd b
number_is_no_name (Blank ∷ cs) r i a b = absurd b
number_is_no_name (Open ∷ cs) r i a b = absurd b
number_is_no_name (Close ∷ cs) r i a b = absurd b
number_is_no_name (Comma ∷ cs) r i a b = absurd b
number_is_no_name (Equals ∷ cs) r i a b = absurd b
number_is_no_name (Question ∷ cs) r i a b = absurd b
number_is_no_name (Underscore ∷ cs) r i a b = absurd b
number_is_no_name (Small c ∷ cs) r i a b = absurd b
number_is_no_name (Other ∷ cs) r i a b = absurd b

pub opened : (cs r : List Symbol) → SignText Open cs r → IsOpened (skip cs)
opened cs r a = subst IsOpened (sym a) tt

mutual
  written_once : (w u : Written) (cs r q : List Symbol) → WrittenText cs w r → WrittenText cs u q → (w ≡ u) × (r ≡ q)
  written_once (Number i) (Number j) cs r q a b =
      let same = number_once (skip cs) r q i j a b in
      (ap Number same.0, same.1)
  written_once (Number i) (Named n ws) cs r q a b = absurd (number_is_no_name (skip cs) r i a b.0)
  written_once (Named n ws) (Number j) cs r q a b = absurd (number_is_no_name (skip cs) q j b a.0)
  written_once (Named n ws) (Named m us) cs r q (a, e, x) (b, f, y) =
      let same = parts_once ws us (following (skip cs)) r q x y in
      let name = e ∙ sym f in
      ((λ i. Named (name i) (same.0 i)), same.1)

  parts_once : (ws us : Parts) (cs r q : List Symbol) → PartsText cs ws r → PartsText cs us q → (ws ≡ us) × (r ≡ q)
  parts_once NoParts NoParts cs r q a b = (refl, a.1 ∙ sym b.1)
  parts_once NoParts (MoreParts u us) cs r q a (inner, after, bracket, x, y) = absurd (a.0 (opened cs inner bracket))
  parts_once (MoreParts w ws) NoParts cs r q (inner, after, bracket, x, y) b = absurd (b.0 (opened cs inner bracket))
  parts_once (MoreParts w ws) (MoreParts u us) cs r q (inner, after, bracket, x, y) (inner2, after2, bracket2, x2, y2) =
      let start = sign_once Open cs inner inner2 bracket bracket2 in
      let first = written_once w u inner after after2 x (subst (λ s. WrittenText s u after2) (sym start) x2) in
      let rest = further_once ws us after r q y (subst (λ s. FurtherText s us q) (sym first.1) y2) in
      ((λ i. MoreParts (first.0 i) (rest.0 i)), rest.1)

  further_once : (ws us : Parts) (cs r q : List Symbol) → FurtherText cs ws r → FurtherText cs us q → (ws ≡ us) × (r ≡ q)
  further_once NoParts NoParts cs r q a b = (refl, sign_once Close cs r q a b)
  further_once NoParts (MoreParts u us) cs r q a (next, after, comma, x, y) = absurd (close_is_no_comma cs r next a comma)
  further_once (MoreParts w ws) NoParts cs r q (next, after, comma, x, y) b = absurd (close_is_no_comma cs q next b comma)
  further_once (MoreParts w ws) (MoreParts u us) cs r q (next, after, comma, x, y) (next2, after2, comma2, x2, y2) =
      let start = sign_once Comma cs next next2 comma comma2 in
      let first = written_once w u next after after2 x (subst (λ s. WrittenText s u after2) (sym start) x2) in
      let rest = further_once ws us after r q y (subst (λ s. FurtherText s us q) (sym first.1) y2) in
      ((λ i. MoreParts (first.0 i) (rest.0 i)), rest.1)

small_is_no_number : (cs r : List Symbol) (i : ℤ) → NumberText cs i r → BeginsSmall cs → ⊥
small_is_no_number (Small c ∷ cs) r i a b = absurd a
small_is_no_number [] r i a b = absurd b
small_is_no_number (Digit d ∷ cs) r i a b = absurd b
small_is_no_number (Minus ∷ cs) r i a b = absurd b
small_is_no_number (Blank ∷ cs) r i a b = absurd b
small_is_no_number (Open ∷ cs) r i a b = absurd b
small_is_no_number (Close ∷ cs) r i a b = absurd b
small_is_no_number (Comma ∷ cs) r i a b = absurd b
small_is_no_number (Equals ∷ cs) r i a b = absurd b
small_is_no_number (Question ∷ cs) r i a b = absurd b
small_is_no_number (Underscore ∷ cs) r i a b = absurd b
small_is_no_number (Capital c ∷ cs) r i a b = absurd b
small_is_no_number (Other ∷ cs) r i a b = absurd b

small_is_no_capital : (cs : List Symbol) → BeginsCapital cs → BeginsSmall cs → ⊥
small_is_no_capital (Small c ∷ cs) a b = absurd a
small_is_no_capital [] a b = absurd b
small_is_no_capital (Digit d ∷ cs) a b = absurd b
small_is_no_capital (Minus ∷ cs) a b = absurd b
small_is_no_capital (Blank ∷ cs) a b = absurd b
small_is_no_capital (Open ∷ cs) a b = absurd b
small_is_no_capital (Close ∷ cs) a b = absurd b
small_is_no_capital (Comma ∷ cs) a b = absurd b
small_is_no_capital (Equals ∷ cs) a b = absurd b
small_is_no_capital (Question ∷ cs) a b = absurd b
small_is_no_capital (Underscore ∷ cs) a b = absurd b
small_is_no_capital (Capital c ∷ cs) a b = absurd b
small_is_no_capital (Other ∷ cs) a b = absurd b

name_is_no_value : (w : Written) (cs r q : List Symbol) (n : Name) → WrittenText cs w r → NameText cs n q → ⊥
name_is_no_value (Number i) cs r q n a b = small_is_no_number (skip cs) r i a b.small
name_is_no_value (Named m ws) cs r q n a b = small_is_no_capital (skip cs) a.0 b.small

pub given_once : (g h : Given) (cs r q : List Symbol) → GivenText cs g r → GivenText cs h q → (g ≡ h) × (r ≡ q)
given_once (Held n) (Held m) cs r q a b = let same = name_once cs r q n m a b in (ap Held same.0, same.1)
given_once (Held n) (Fresh u) cs r q a b = absurd (name_is_no_value u cs q r n b a)
given_once (Fresh w) (Held m) cs r q a b = absurd (name_is_no_value w cs r q m a b)
given_once (Fresh w) (Fresh u) cs r q a b = let same = written_once w u cs r q a b in (ap Fresh same.0, same.1)

more_given_once : (gs hs : List Given) (cs r q : List Symbol) → MoreGivenText cs gs r → MoreGivenText cs hs q → (gs ≡ hs) × (r ≡ q)
more_given_once [] [] cs r q a b = (refl, sign_once Close cs r q a b)
more_given_once [] (h ∷ hs) cs r q a (next, after, comma, x, y) = absurd (close_is_no_comma cs r next a comma)
more_given_once (g ∷ gs) [] cs r q (next, after, comma, x, y) b = absurd (close_is_no_comma cs q next b comma)
more_given_once (g ∷ gs) (h ∷ hs) cs r q (next, after, comma, x, y) (next2, after2, comma2, x2, y2) =
    let start = sign_once Comma cs next next2 comma comma2 in
    let first = given_once g h next after after2 x (subst (λ s. GivenText s h after2) (sym start) x2) in
    let rest = more_given_once gs hs after r q y (subst (λ s. MoreGivenText s hs q) (sym first.1) y2) in
    ((λ i. first.0 i ∷ rest.0 i), rest.1)

is_close_front : (cs r : List Symbol) → SignText Close cs r → is_close (skip cs) ≡ true
is_close_front cs r a = ap is_close a

number_is_open : (cs r : List Symbol) (i : ℤ) → NumberText cs i r → is_close cs ≡ false
number_is_open (Close ∷ cs) r i a = absurd a
number_is_open [] r i a = refl
number_is_open (Digit d ∷ cs) r i a = refl
number_is_open (Minus ∷ cs) r i a = refl
number_is_open (Blank ∷ cs) r i a = refl
number_is_open (Open ∷ cs) r i a = refl
number_is_open (Comma ∷ cs) r i a = refl
number_is_open (Equals ∷ cs) r i a = refl
number_is_open (Question ∷ cs) r i a = refl
number_is_open (Underscore ∷ cs) r i a = refl
number_is_open (Small c ∷ cs) r i a = refl
number_is_open (Capital c ∷ cs) r i a = refl
number_is_open (Other ∷ cs) r i a = refl

capital_is_open : (cs : List Symbol) → BeginsCapital cs → is_close cs ≡ false
capital_is_open (Close ∷ cs) a = absurd a
capital_is_open [] a = refl
capital_is_open (Digit d ∷ cs) a = refl
capital_is_open (Minus ∷ cs) a = refl
capital_is_open (Blank ∷ cs) a = refl
capital_is_open (Open ∷ cs) a = refl
capital_is_open (Comma ∷ cs) a = refl
capital_is_open (Equals ∷ cs) a = refl
capital_is_open (Question ∷ cs) a = refl
capital_is_open (Underscore ∷ cs) a = refl
capital_is_open (Small c ∷ cs) a = refl
capital_is_open (Capital c ∷ cs) a = refl
capital_is_open (Other ∷ cs) a = refl

small_is_open : (cs : List Symbol) → BeginsSmall cs → is_close cs ≡ false
small_is_open (Close ∷ cs) a = absurd a
small_is_open [] a = refl
small_is_open (Digit d ∷ cs) a = refl
small_is_open (Minus ∷ cs) a = refl
small_is_open (Blank ∷ cs) a = refl
small_is_open (Open ∷ cs) a = refl
small_is_open (Comma ∷ cs) a = refl
small_is_open (Equals ∷ cs) a = refl
small_is_open (Question ∷ cs) a = refl
small_is_open (Underscore ∷ cs) a = refl
small_is_open (Small c ∷ cs) a = refl
small_is_open (Capital c ∷ cs) a = refl
small_is_open (Other ∷ cs) a = refl

given_is_open : (g : Given) (cs r : List Symbol) → GivenText cs g r → is_close (skip cs) ≡ false
given_is_open (Held n) cs r a = small_is_open (skip cs) a.small
given_is_open (Fresh (Number i)) cs r a = number_is_open (skip cs) r i a
given_is_open (Fresh (Named n ws)) cs r a = capital_is_open (skip cs) a.0

no_given_closed : (g : Given) (cs r q : List Symbol) → GivenText cs g r → SignText Close cs q → ⊥
no_given_closed g cs r q a b = let e : true ≡ false = sym (is_close_front cs q b) ∙ given_is_open g cs r a in absurd cc

pub all_given_once : (gs hs : List Given) (cs r q : List Symbol) → AllGivenText cs gs r → AllGivenText cs hs q → (gs ≡ hs) × (r ≡ q)
all_given_once [] [] cs r q a b = (refl, sign_once Close cs r q a b)
all_given_once [] (h ∷ hs) cs r q a (after, x, y) = absurd (no_given_closed h cs after r x a)
all_given_once (g ∷ gs) [] cs r q (after, x, y) b = absurd (no_given_closed g cs after q x b)
all_given_once (g ∷ gs) (h ∷ hs) cs r q (after, x, y) (after2, x2, y2) =
    let first = given_once g h cs after after2 x x2 in
    let rest = more_given_once gs hs after r q y (subst (λ s. MoreGivenText s hs q) (sym first.1) y2) in
    ((λ i. first.0 i ∷ rest.0 i), rest.1)

call_once : (cs : List Symbol) (f g : Name) (gs hs : List Given) → CallText cs f gs → CallText cs g hs → (f ≡ g) × (gs ≡ hs)
call_once cs f g gs hs (after, inner, rest, name, bracket, all, end) (after2, inner2, rest2, name2, bracket2, all2, end2) =
    let first = name_once cs after after2 f g name name2 in
    let start = sign_once Open after inner inner2 bracket (subst (λ s. SignText Open s inner2) (sym first.1) bracket2) in
    let given = all_given_once gs hs inner rest rest2 all (subst (λ s. AllGivenText s hs rest2) (sym start) all2) in
    (first.0, given.0)

abbrev is_equals : List Symbol → Bool
is_equals (Equals ∷ cs) = true
is_equals cs = false

pub names_once : (ns ms : List Name) (cs r q : List Symbol) → MoreNamesText cs ns r → MoreNamesText cs ms q → (ns ≡ ms) × (r ≡ q)
names_once [] [] cs r q a b = (refl, sign_once Equals cs r q a b)
names_once [] (m ∷ ms) cs r q a (next, after, comma, x, y) = let e : true ≡ false = ap is_equals (sym a ∙ comma) in absurd cc
names_once (n ∷ ns) [] cs r q (next, after, comma, x, y) b = let e : true ≡ false = ap is_equals (sym b ∙ comma) in absurd cc
names_once (n ∷ ns) (m ∷ ms) cs r q (next, after, comma, x, y) (next2, after2, comma2, x2, y2) =
    let start = sign_once Comma cs next next2 comma comma2 in
    let first = name_once next after after2 n m x (subst (λ s. NameText s m after2) (sym start) x2) in
    let rest = names_once ns ms after r q y (subst (λ s. MoreNamesText s ms q) (sym first.1) y2) in
    ((λ i. first.0 i ∷ rest.0 i), rest.1)

marked_once : (s : Symbol) (cs : List Symbol) (n m : Name) → MarkedText s cs n → MarkedText s cs m → n ≡ m
marked_once s cs n m (next, rest, sign, name, end) (next2, rest2, sign2, name2, end2) =
    let start = sign_once s cs next next2 sign sign2 in
    (name_once next rest rest2 n m name (subst (λ t. NameText t m rest2) (sym start) name2)).0

-- what a line begins with
pub data Front : Type 0 where
  AWord : Front
  AQuestion : Front
  AMinus : Front
  Another : Front

abbrev front : List Symbol → Front
front (Small b ∷ cs) = AWord
front (Question ∷ cs) = AQuestion
front (Minus ∷ cs) = AMinus
front cs = Another

small_front : (cs : List Symbol) → BeginsSmall cs → front cs ≡ AWord
small_front (Small c ∷ cs) b = refl
small_front (Close ∷ cs) a = absurd a
small_front [] a = absurd a
small_front (Digit d ∷ cs) a = absurd a
small_front (Minus ∷ cs) a = absurd a
small_front (Blank ∷ cs) a = absurd a
small_front (Open ∷ cs) a = absurd a
small_front (Comma ∷ cs) a = absurd a
small_front (Equals ∷ cs) a = absurd a
small_front (Question ∷ cs) a = absurd a
small_front (Underscore ∷ cs) a = absurd a
small_front (Capital c ∷ cs) a = absurd a
small_front (Other ∷ cs) a = absurd a

line_once' : (cs : List Symbol) (a b : Line) → LineText cs a → LineText cs b → a ≡ b
line_once' cs (Calls n ns f gs) (Calls m ms g hs) (after, rest, name, names, call) (after2, rest2, name2, names2, call2) =
    let first = name_once cs after after2 n m name name2 in
    let more = names_once ns ms after rest rest2 names (subst (λ s. MoreNamesText s ms rest2) (sym first.1) names2) in
    let called = call_once rest f g gs hs call (subst (λ s. CallText s g hs) (sym more.1) call2) in
    λ i. Calls (first.0 i) (more.0 i) (called.0 i) (called.1 i)
line_once' cs (Calls n ns f gs) (Shows m) x y = let e : AWord ≡ AQuestion = sym (small_front (skip cs) x.2.small) ∙ ap front y.2 in absurd cc
line_once' cs (Calls n ns f gs) (GivesUp m) x y = let e : AWord ≡ AMinus = sym (small_front (skip cs) x.2.small) ∙ ap front y.2 in absurd cc
line_once' cs (Shows n) (Calls m ms g hs) x y = let e : AWord ≡ AQuestion = sym (small_front (skip cs) y.2.small) ∙ ap front x.2 in absurd cc
line_once' cs (GivesUp n) (Calls m ms g hs) x y = let e : AWord ≡ AMinus = sym (small_front (skip cs) y.2.small) ∙ ap front x.2 in absurd cc
line_once' cs (Shows n) (Shows m) x y = ap Shows (marked_once Question cs n m x y)
line_once' cs (GivesUp n) (GivesUp m) x y = ap GivesUp (marked_once Minus cs n m x y)
line_once' cs (Shows n) (GivesUp m) x y = let e : AQuestion ≡ AMinus = ap front (sym x.2 ∙ y.2) in absurd cc
line_once' cs (GivesUp n) (Shows m) x y = let e : AMinus ≡ AQuestion = ap front (sym x.2 ∙ y.2) in absurd cc

pub line_once : (bytes : List ℕ) (a b : Line) → SpellsLine bytes a → SpellsLine bytes b → a ≡ b
line_once bytes a b x y = line_once' (symbols bytes) a b x y

-- the values of a list of fresh ones
abbrev parts_of : List Given → Parts
parts_of [] = NoParts
parts_of (Fresh w ∷ gs) = MoreParts w (parts_of gs)
parts_of (Held n ∷ gs) = parts_of gs

parts_of_fresh : (ws : Parts) → parts_of (fresh_of ws) ≡ ws
parts_of_fresh NoParts = refl
parts_of_fresh (MoreParts w ws) = ap (MoreParts w) (parts_of_fresh ws)

pub task_entry_once : (bytes : List ℕ) (f g : Name) (v w : Parts) → SpellsTask bytes f v → SpellsTask bytes g w → f ≡ g
task_entry_once bytes f g v w x y = (call_once (symbols bytes) f g (fresh_of v) (fresh_of w) x y).0

pub task_values_once : (bytes : List ℕ) (f g : Name) (v w : Parts) → SpellsTask bytes f v → SpellsTask bytes g w → v ≡ w
task_values_once bytes f g v w x y =
    let same = call_once (symbols bytes) f g (fresh_of v) (fresh_of w) x y in
    sym (parts_of_fresh v) ∙ ap parts_of same.1 ∙ parts_of_fresh w
