-- The parts of a line, one after another.
use Rattle.std.proofs.Common.{◌≡◌, ◌∙◌, ℕ, List, [], ◌∷◌, ◌++◌, append_assoc, append-nil, refl, sym, ap, ap₂, subst, drop}
use Rattle.fip_language.specs.Core.{Name}
use Rattle.session_semantics.specs.Lines.{Symbol, Blank, Open, Close, Comma, Equals, Question, Minus}
use Rattle.session_semantics.specs.Lines.{symbol, symbols, skip, word, following, BeginsSmall, BeginsCapital, NameText, SignText}
use Rattle.session_semantics.specs.Lines.{Written, Number, Named, NumberText, WrittenText, PartsText}
use Rattle.session_semantics.specs.Lines.{Given, Held, Fresh, GivenText, MoreGivenText, AllGivenText, MoreNamesText, CallText, Line, Calls, Shows, GivesUp, LineText}
use Rattle.session_semantics.proofs.OneForm.{name_once, sign_once, close_is_no_comma, given_once, all_given_once, names_once}
use Rattle.std.specs.Borrow.{Bor}
use Rattle.session_lines.proofs.Tokens.{IsOf, of_symbol}
use Rattle.session_lines.specs.Scanned.{IsSignOf, left}
use Rattle.session_lines.specs.declared.scan.Scanner.{Scanner}
use Rattle.session_lines.specs.declared.scan.Span.{Span}
use Rattle.session_lines.specs.declared.line.CallLine.{CallLine}
use Rattle.session_lines.specs.declared.line.Line.TheVariants as R
use Rattle.session_lines.specs.declared.line.Written.{Written as Argument}
use Rattle.session_lines.specs.declared.line.Written.TheVariants as W
use Rattle.session_lines.specs.Said.{IsGiven, AreGiven, names_of, Says}
use Rattle.session_lines.specs.Parts.{GivenRead, MoreGiven, AllGiven, InBrackets, MoreNames, Results, CallRead, LastName}

-- ---- signs

pub sign_equals : IsSignOf 61 Equals
sign_equals d = (λ e. subst (IsOf d) e (of_symbol d), λ e. ap symbol e)

pub sign_question : IsSignOf 63 Question
sign_question d = (λ e. subst (IsOf d) e (of_symbol d), λ e. ap symbol e)

pub sign_minus : IsSignOf 45 Minus
sign_minus d = (λ e. subst (IsOf d) e (of_symbol d), λ e. ap symbol e)

-- ---- names

pub one_name_more : (ns ms : List (Bor (List ℕ))) (n : Bor (List ℕ)) → ms ≡ ns ++ n ∷ [] → names_of ms ≡ names_of ns ++ n.now ∷ []
one_name_more ns ms n e = ap names_of e ∙ put ns
  where
    put : (ks : List (Bor (List ℕ))) → names_of (ks ++ n ∷ []) ≡ names_of ks ++ n.now ∷ []
    put [] = refl
    put (k ∷ ks) = ap (λ xs. k.now ∷ xs) (put ks)

comma_is_no_equals : (cs r q : List Symbol) → SignText Comma cs r → SignText Equals cs q → ⊥
comma_is_no_equals cs r q a b = let e = sym a ∙ b in absurd cc

-- names were read after others, and more may come
pub record Naming (start now : List Symbol) (before after : List Name) : Type 0 where
  pub more : List Name
  pub are : after ≡ before ++ more
  pub to : (ns : List Name) (rest : List Symbol) → MoreNamesText now ns rest → MoreNamesText start (more ++ ns) rest
  pub from : (ns : List Name) (rest : List Symbol) → MoreNamesText start ns rest → (ms : List Name) × MoreNamesText now ms rest

pub naming_starts : (cs : List Symbol) (before : List Name) → Naming cs cs before before
naming_starts cs before = record {
  more = [];
  are = sym (append-nil before);
  to = λ ns rest t. t;
  from = λ ns rest t. (ns, t);
}

name_further : (now next after : List Symbol) (n : Name) (ms : List Name) (rest : List Symbol) → SignText Comma now next → NameText next n after → MoreNamesText now ms rest → (ks : List Name) × MoreNamesText after ks rest
name_further now next after n [] rest s t e = absurd (comma_is_no_equals now next rest s e)
name_further now next after n (m ∷ ms) rest s t (next2, after2, s2, t2, u) =
    let same = sign_once Comma now next2 next s2 s in
    let end = name_once next after2 after m n (subst (λ x. NameText x m after2) same t2) t in
    (ms, subst (λ x. MoreNamesText x ms rest) end.1 u)

pub naming_on : (start now next then' : List Symbol) (n : Name) (before after longer : List Name) → SignText Comma now next → NameText next n then' → longer ≡ after ++ n ∷ [] → Naming start now before after → Naming start then' before longer
naming_on start now next then' n before after longer s t e a = record {
  more = a.more ++ n ∷ [];
  are = e ∙ ap (λ xs. xs ++ n ∷ []) a.are ∙ append_assoc before a.more (n ∷ []);
  to = λ ns rest u. subst (λ xs. MoreNamesText start xs rest) (sym (append_assoc a.more (n ∷ []) ns)) (a.to (n ∷ ns) rest (next, then', s, t, u));
  from = λ ns rest u. let r = a.from ns rest u in name_further now next then' n r.0 rest s t r.1;
}

pub naming_ends : (start now rest : List Symbol) (before after : List Name) → SignText Equals now rest → Naming start now before after → MoreNames before after start rest
naming_ends start now rest before after s a = record {
  more = a.more;
  are = a.are;
  text = subst (λ xs. MoreNamesText start xs rest) (append-nil a.more) (a.to [] rest s);
}

never_named : (now next : List Symbol) (ms : List Name) (rest : List Symbol) → SignText Comma now next → ((n : Name) (r : List Symbol) → NameText next n r → ⊥) → MoreNamesText now ms rest → ⊥
never_named now next [] rest s never e = comma_is_no_equals now next rest s e
never_named now next (m ∷ ms) rest s never (next2, after2, s2, t2, u) = never m after2 (subst (λ x. NameText x m after2) (sign_once Comma now next2 next s2 s) t2)

pub no_name_more : (start now next : List Symbol) (before after : List Name) → SignText Comma now next → ((n : Name) (r : List Symbol) → NameText next n r → ⊥) → Naming start now before after → (ns : List Name) (rest : List Symbol) → MoreNamesText start ns rest → ⊥
no_name_more start now next before after s never a ns rest t = let r = a.from ns rest t in never_named now next r.0 rest s never r.1

never_equals : (now : List Symbol) (ms : List Name) (rest : List Symbol) → ((r : List Symbol) → SignText Comma now r → ⊥) → ((r : List Symbol) → SignText Equals now r → ⊥) → MoreNamesText now ms rest → ⊥
never_equals now [] rest comma equals e = equals rest e
never_equals now (m ∷ ms) rest comma equals (next2, after2, s2, t2, u) = comma next2 s2

pub no_equals : (start now : List Symbol) (before after : List Name) → ((r : List Symbol) → SignText Comma now r → ⊥) → ((r : List Symbol) → SignText Equals now r → ⊥) → Naming start now before after → (ns : List Name) (rest : List Symbol) → MoreNamesText start ns rest → ⊥
no_equals start now before after comma equals a ns rest t = let r = a.from ns rest t in never_equals now r.0 rest comma equals r.1

pub results_read : (cs mid rest : List Symbol) (n : Name) (before all : List Name) → NameText cs n mid → before ≡ n ∷ [] → MoreNames before all mid rest → Results cs all rest
results_read cs mid rest n before all t e m = subst (λ xs. Results cs xs rest) (sym (m.are ∙ ap (λ xs. xs ++ m.more) e)) (mid, t, m.text)

pub no_results : (cs rest : List Symbol) (ns : List Name) → ((n : Name) (r : List Symbol) → NameText cs n r → ⊥) → Results cs ns rest → ⊥
no_results cs rest [] never h = h
no_results cs rest (n ∷ ns) never (after, t, m) = never n after t

pub no_more_results : (cs mid rest : List Symbol) (n : Name) (ns : List Name) → NameText cs n mid → ((ms : List Name) (r : List Symbol) → MoreNamesText mid ms r → ⊥) → Results cs ns rest → ⊥
no_more_results cs mid rest n [] t never h = h
no_more_results cs mid rest n (m ∷ ns) t never (after, u, h) = never ns rest (subst (λ x. MoreNamesText x ns rest) (name_once cs after mid m n u t).1 h)

-- ---- arguments

skip_again : (cs : List Symbol) → skip (skip cs) ≡ skip cs
skip_again [] = refl
skip_again (Blank ∷ cs) = skip_again cs
skip_again (c ∷ cs) = refl

skipped_text : (cs : List Symbol) (w : Written) (rest : List Symbol) → WrittenText cs w rest → WrittenText (skip cs) w rest
skipped_text cs (Number i) rest t = subst (λ x. NumberText x i rest) (sym (skip_again cs)) t
skipped_text cs (Named n ws) rest t = subst (λ x. BeginsCapital x × (n ≡ word x) × PartsText (following x) ws rest) (sym (skip_again cs)) t

pub value_read : (bytes : List ℕ) (s : Span) (cs mid : List Symbol) (w : Written) → symbols (drop s.start bytes) ≡ skip cs → symbols (drop s.end bytes) ≡ mid → WrittenText cs w mid → GivenRead bytes (W.Value s) cs mid
value_read bytes s cs mid w start end t = record {
  given = Fresh w;
  is = subst (λ x. WrittenText x w (symbols (drop s.end bytes))) (sym start) (subst (WrittenText (skip cs) w) (sym end) (skipped_text cs w mid t));
  text = t;
}

pub no_given : (cs : List Symbol) (g : Given) (rest : List Symbol) → ((n : Name) (r : List Symbol) → NameText cs n r → ⊥) → ((w : Written) (r : List Symbol) → WrittenText cs w r → ⊥) → GivenText cs g rest → ⊥
no_given cs (Held n) rest name value t = name n rest t
no_given cs (Fresh w) rest name value t = value w rest t

-- arguments were read after others, and more may come
pub record Giving (bytes : List ℕ) (start now : List Symbol) (before after : List Argument) : Type 0 where
  pub more : List Given
  pub are : (gs : List Given) → AreGiven bytes before gs → AreGiven bytes after (gs ++ more)
  pub to : (gs : List Given) (rest : List Symbol) → MoreGivenText now gs rest → MoreGivenText start (more ++ gs) rest
  pub from : (gs : List Given) (rest : List Symbol) → MoreGivenText start gs rest → (hs : List Given) × MoreGivenText now hs rest

pub giving_starts : (bytes : List ℕ) (cs : List Symbol) (before : List Argument) → Giving bytes cs cs before before
giving_starts bytes cs before = record {
  more = [];
  are = λ gs h. subst (AreGiven bytes before) (sym (append-nil gs)) h;
  to = λ gs rest t. t;
  from = λ gs rest t. (gs, t);
}

given_added : (bytes : List ℕ) (list : List Argument) (gs : List Given) (a : Argument) (g : Given) → AreGiven bytes list gs → IsGiven bytes a g → AreGiven bytes (list ++ a ∷ []) (gs ++ g ∷ [])
given_added bytes [] [] a g h i = (i, tt)
given_added bytes [] (x ∷ gs) a g h i = absurd h
given_added bytes (b ∷ list) [] a g h i = absurd h
given_added bytes (b ∷ list) (x ∷ gs) a g h i = (h.0, given_added bytes list gs a g h.1 i)

given_further : (now next after : List Symbol) (g : Given) (hs : List Given) (rest : List Symbol) → SignText Comma now next → GivenText next g after → MoreGivenText now hs rest → (ks : List Given) × MoreGivenText after ks rest
given_further now next after g [] rest s t e = absurd (close_is_no_comma now rest next e s)
given_further now next after g (h ∷ hs) rest s t (next2, after2, s2, t2, u) =
    let same = sign_once Comma now next2 next s2 s in
    let end = given_once h g next after2 after (subst (λ x. GivenText x h after2) same t2) t in
    (hs, subst (λ x. MoreGivenText x hs rest) end.1 u)

pub giving_on : (bytes : List ℕ) (start now next then' : List Symbol) (a : Argument) (before after longer : List Argument) → SignText Comma now next → GivenRead bytes a next then' → longer ≡ after ++ a ∷ [] → Giving bytes start now before after → Giving bytes start then' before longer
giving_on bytes start now next then' a before after longer s r e h = record {
  more = h.more ++ r.given ∷ [];
  are = λ gs are. subst (λ l. AreGiven bytes l (gs ++ (h.more ++ r.given ∷ []))) (sym e)
      (subst (AreGiven bytes (after ++ a ∷ [])) (append_assoc gs h.more (r.given ∷ [])) (given_added bytes after (gs ++ h.more) a r.given (h.are gs are) r.is));
  to = λ gs rest u. subst (λ xs. MoreGivenText start xs rest) (sym (append_assoc h.more (r.given ∷ []) gs)) (h.to (r.given ∷ gs) rest (next, then', s, r.text, u));
  from = λ gs rest u. let f = h.from gs rest u in given_further now next then' r.given f.0 rest s r.text f.1;
}

pub giving_ends : (bytes : List ℕ) (start now rest : List Symbol) (before after : List Argument) → SignText Close now rest → Giving bytes start now before after → MoreGiven bytes before after start rest
giving_ends bytes start now rest before after s h = record {
  more = h.more;
  are = h.are;
  text = subst (λ xs. MoreGivenText start xs rest) (append-nil h.more) (h.to [] rest s);
}

never_given : (now next : List Symbol) (hs : List Given) (rest : List Symbol) → SignText Comma now next → ((g : Given) (r : List Symbol) → GivenText next g r → ⊥) → MoreGivenText now hs rest → ⊥
never_given now next [] rest s never e = close_is_no_comma now rest next e s
never_given now next (h ∷ hs) rest s never (next2, after2, s2, t2, u) = never h after2 (subst (λ x. GivenText x h after2) (sign_once Comma now next2 next s2 s) t2)

pub no_given_more : (bytes : List ℕ) (start now next : List Symbol) (before after : List Argument) → SignText Comma now next → ((g : Given) (r : List Symbol) → GivenText next g r → ⊥) → Giving bytes start now before after → (gs : List Given) (rest : List Symbol) → MoreGivenText start gs rest → ⊥
no_given_more bytes start now next before after s never h gs rest t = let f = h.from gs rest t in never_given now next f.0 rest s never f.1

never_closed : (now : List Symbol) (hs : List Given) (rest : List Symbol) → ((r : List Symbol) → SignText Comma now r → ⊥) → ((r : List Symbol) → SignText Close now r → ⊥) → MoreGivenText now hs rest → ⊥
never_closed now [] rest comma close e = close rest e
never_closed now (h ∷ hs) rest comma close (next2, after2, s2, t2, u) = comma next2 s2

pub no_close : (bytes : List ℕ) (start now : List Symbol) (before after : List Argument) → ((r : List Symbol) → SignText Comma now r → ⊥) → ((r : List Symbol) → SignText Close now r → ⊥) → Giving bytes start now before after → (gs : List Given) (rest : List Symbol) → MoreGivenText start gs rest → ⊥
no_close bytes start now before after comma close h gs rest t = let f = h.from gs rest t in never_closed now f.0 rest comma close f.1

pub none_given : (bytes : List ℕ) (list : List Argument) (cs rest : List Symbol) → list ≡ [] → SignText Close cs rest → AllGiven bytes list cs rest
none_given bytes list cs rest e s = record { all = []; are = subst (λ l. AreGiven bytes l []) (sym e) tt; text = s }

pub all_given : (bytes : List ℕ) (a : Argument) (before list : List Argument) (cs mid rest : List Symbol) → before ≡ a ∷ [] → GivenRead bytes a cs mid → MoreGiven bytes before list mid rest → AllGiven bytes list cs rest
all_given bytes a before list cs mid rest e r m = record {
  all = r.given ∷ m.more;
  are = m.are (r.given ∷ []) (subst (λ l. AreGiven bytes l (r.given ∷ [])) (sym e) (r.is, tt));
  text = (mid, r.text, m.text);
}

pub no_first : (cs : List Symbol) (gs : List Given) (rest : List Symbol) → ((r : List Symbol) → SignText Close cs r → ⊥) → ((g : Given) (r : List Symbol) → GivenText cs g r → ⊥) → AllGivenText cs gs rest → ⊥
no_first cs [] rest close never h = close rest h
no_first cs (g ∷ gs) rest close never (after, t, m) = never g after t

pub no_further : (bytes : List ℕ) (a : Argument) (cs mid : List Symbol) (gs : List Given) (rest : List Symbol) → ((r : List Symbol) → SignText Close cs r → ⊥) → GivenRead bytes a cs mid → ((hs : List Given) (r : List Symbol) → MoreGivenText mid hs r → ⊥) → AllGivenText cs gs rest → ⊥
no_further bytes a cs mid [] rest close r never h = close rest h
no_further bytes a cs mid (g ∷ gs) rest close r never (after, t, m) =
    never gs rest (subst (λ x. MoreGivenText x gs rest) (given_once g r.given cs after mid t r.text).1 m)

-- ---- lines

pub call_read : (bytes : List ℕ) (c : CallLine) (cs mid then' rest : List Symbol) (gs : List Given) → Results cs (names_of c.results.items) mid → NameText mid c.entry.now then' → AreGiven bytes c.arguments.items gs → InBrackets then' gs rest → skip rest ≡ [] → CallRead bytes c cs
call_read bytes c cs mid then' rest gs results name are brackets end = by (names_of c.results.items) refl results
  where
    by : (ns : List Name) → names_of c.results.items ≡ ns → Results cs ns mid → CallRead bytes c cs
    by [] e h = absurd h
    by (n ∷ ns) e (after, t, m) = record {
      result = n;
      results = ns;
      entry = c.entry.now;
      given = gs;
      is = record { named = e; called = refl; given = are };
      text = (after, mid, t, m, (then', brackets.0, rest, name, brackets.1, brackets.2, end));
    }

-- what a call of a line begins with
pub call_results : (cs : List Symbol) (n : Name) (ns : List Name) (f : Name) (gs : List Given) → LineText cs (Calls n ns f gs) → (rest : List Symbol) × Results cs (n ∷ ns) rest × CallText rest f gs
call_results cs n ns f gs (after, rest, t, m, call) = (rest, (after, t, m), call)

pub results_once : (cs r q : List Symbol) (ns ms : List Name) → Results cs ns r → Results cs ms q → r ≡ q
results_once cs r q [] ms h k = absurd h
results_once cs r q (n ∷ ns) [] h k = absurd k
results_once cs r q (n ∷ ns) (m ∷ ms) (after, t, x) (after2, t2, y) =
    (names_once ns ms after r q x (subst (λ s. MoreNamesText s ms q) (name_once cs after2 after m n t2 t).1 y)).1

pub brackets_once : (cs r q : List Symbol) (gs hs : List Given) → InBrackets cs gs r → InBrackets cs hs q → r ≡ q
brackets_once cs r q gs hs (inner, s, h) (inner2, s2, k) =
    (all_given_once gs hs inner r q h (subst (λ x. AllGivenText x hs q) (sign_once Open cs inner2 inner s2 s) k)).1

pub no_entry : (cs mid : List Symbol) (ms : List Name) → Results cs ms mid → ((f : Name) (r : List Symbol) → NameText mid f r → ⊥) → (n : Name) (ns : List Name) (f : Name) (gs : List Given) → LineText cs (Calls n ns f gs) → ⊥
no_entry cs mid ms results never n ns f gs h =
    let r = call_results cs n ns f gs h in
    let call = subst (λ x. CallText x f gs) (results_once cs r.0 mid (n ∷ ns) ms r.1 results) r.2 in
    never f call.0 call.3

pub no_arguments : (cs mid then' : List Symbol) (ms : List Name) (e : Name) → Results cs ms mid → NameText mid e then' → ((gs : List Given) (r : List Symbol) → InBrackets then' gs r → ⊥) → (n : Name) (ns : List Name) (f : Name) (gs : List Given) → LineText cs (Calls n ns f gs) → ⊥
no_arguments cs mid then' ms e results name never n ns f gs h =
    let r = call_results cs n ns f gs h in
    let call = subst (λ x. CallText x f gs) (results_once cs r.0 mid (n ∷ ns) ms r.1 results) r.2 in
    let same = (name_once mid call.0 then' f e call.3 name).1 in
    never gs call.2 (subst (λ x. InBrackets x gs call.2) same (call.1, call.4, call.5))

pub no_end : (cs mid then' rest : List Symbol) (ms : List Name) (e : Name) (hs : List Given) → Results cs ms mid → NameText mid e then' → InBrackets then' hs rest → (skip rest ≡ [] → ⊥) → (n : Name) (ns : List Name) (f : Name) (gs : List Given) → LineText cs (Calls n ns f gs) → ⊥
no_end cs mid then' rest ms e hs results name brackets never n ns f gs h =
    let r = call_results cs n ns f gs h in
    let call = subst (λ x. CallText x f gs) (results_once cs r.0 mid (n ∷ ns) ms r.1 results) r.2 in
    let same = (name_once mid call.0 then' f e call.3 name).1 in
    let end = brackets_once then' call.2 rest gs hs (subst (λ x. InBrackets x gs call.2) same (call.1, call.4, call.5)) brackets in
    never (subst (λ x. skip x ≡ []) end call.6)

pub no_call : (cs : List Symbol) → ((ns : List Name) (r : List Symbol) → Results cs ns r → ⊥) → (n : Name) (ns : List Name) (f : Name) (gs : List Given) → LineText cs (Calls n ns f gs) → ⊥
no_call cs never n ns f gs h = let r = call_results cs n ns f gs h in never (n ∷ ns) r.0 r.1

sign_is_no_name : (s : Symbol) (cs r q : List Symbol) (n : Name) → (BeginsSmall (s ∷ r) → ⊥) → SignText s cs r → NameText cs n q → ⊥
sign_is_no_name s cs r q n never a b = never (subst BeginsSmall a b.small)

pub no_other_shown : (cs next : List Symbol) (l : Line) → SignText Question cs next → ((n : Name) → LastName next n → ⊥) → LineText cs l → ⊥
no_other_shown cs next (Calls n ns f gs) s never h = sign_is_no_name Question cs next h.0 n (λ x. x) s h.2
no_other_shown cs next (Shows n) s never (next2, rest, s2, t, e) = never n (rest, subst (λ x. NameText x n rest) (sign_once Question cs next2 next s2 s) t, e)
no_other_shown cs next (GivesUp n) s never (next2, rest, s2, t, e) = let x = sym s ∙ s2 in absurd cc

pub no_other_given_up : (cs next : List Symbol) (l : Line) → SignText Minus cs next → ((n : Name) → LastName next n → ⊥) → LineText cs l → ⊥
no_other_given_up cs next (Calls n ns f gs) s never h = sign_is_no_name Minus cs next h.0 n (λ x. x) s h.2
no_other_given_up cs next (GivesUp n) s never (next2, rest, s2, t, e) = never n (rest, subst (λ x. NameText x n rest) (sign_once Minus cs next2 next s2 s) t, e)
no_other_given_up cs next (Shows n) s never (next2, rest, s2, t, e) = let x = sym s ∙ s2 in absurd cc

pub no_other : (cs : List Symbol) (l : Line) → ((r : List Symbol) → SignText Question cs r → ⊥) → ((r : List Symbol) → SignText Minus cs r → ⊥) → ((n : Name) (ns : List Name) (f : Name) (gs : List Given) → LineText cs (Calls n ns f gs) → ⊥) → LineText cs l → ⊥
no_other cs (Calls n ns f gs) question minus call h = call n ns f gs h
no_other cs (Shows n) question minus call (next, rest, s, t, e) = question next s
no_other cs (GivesUp n) question minus call (next, rest, s, t, e) = minus next s

pub start_left : (bytes : List ℕ) (s : Scanner) → s.at ≡ 0 → s.bytes.now ≡ bytes → left s ≡ symbols bytes
start_left bytes s e f = ap₂ (λ n b. symbols (drop n b)) e f

pub call_says : (bytes : List ℕ) (c : CallLine) (cs : List Symbol) → cs ≡ symbols bytes → CallRead bytes c cs → Says bytes (R.Call c)
call_says bytes c cs e r = record {
  line = Calls r.result r.results r.entry r.given;
  is = r.is;
  spelt = subst (λ x. LineText x (Calls r.result r.results r.entry r.given)) e r.text;
}
