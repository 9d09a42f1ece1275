-- What the log says of who holds.
use Rattle.std.proofs.Common.{◌≡◌, ◌≢◌, ℕ, ◌+◌, ◌<◌, ◌≤◌, Bool, true, false, ◌||◌, nat_eq, if◌then◌else◌, List, [], ◌∷◌, ◌++◌, append_assoc, length, Option, Some, None, Result, Ok, Err, OnOk, OnErr, refl, sym, ap, ◌∙◌, subst, inl, inr, arith}
use Rattle.std.specs.declared.alloc.AllocError.{AllocError}
use Rattle.std.proofs.lemmas.Bool.{false≢true, eq-eqb, ne_eqb}
use Rattle.std.proofs.lemmas.List.{append-nil}
use Rattle.std.proofs.lemmas.List.Folds.{list_any-append}
use Rattle.bay_book.specs.declared.ask.Ask.{Ask}
use Rattle.bay_book.specs.declared.ask.Mark.{Mark}
use Rattle.bay_book.specs.declared.ask.Mark.TheVariants.{None as NoLine, Due, At}
use Rattle.bay_book.specs.declared.ask.Stage.{Stage}
use Rattle.bay_book.specs.declared.ask.Stage.TheVariants.{Waits, Holds, Over}
use Rattle.bay_book.specs.Asks.{ask_at, is_holding, given, given_mark}
use Rattle.bay_book.specs.Books.{BookView, IsSound, give_one}
use Rattle.bay_log.specs.declared.how.How.{How}
use Rattle.bay_log.specs.declared.line.Entry.{Entry}
use Rattle.bay_log.specs.declared.line.Line.{Line}
use Rattle.bay_log.specs.declared.line.Line.TheVariants.{Head, Hold as HoldLine, Back, End as EndLine, Note}
use Rattle.bay_log.specs.Lines.{base_of, log_text, is_none}
use Rattle.bay_log.specs.Logs.{LogView, adding, end_of, IsStanding}
use Rattle.bay_log.specs.Alive.{alive, alive_from, after, begins}
use Rattle.bay.specs.Pages.{entry_of, how_of, if_due, end_line_at, owed_end, owed_hold, Pages, pages, WritesThis, IsInLog, IsLogged}
use Rattle.bay.proofs.Tied.{other_asks}

-- ---- one line more

alive_push_from : (held : ℕ → Option Entry) (lines : List Line) (line : Line) → alive_from held (lines ++ line ∷ []) ≡ after (alive_from held lines) line
alive_push_from held [] line = refl
alive_push_from held (l ∷ lines) line = alive_push_from (after held l) lines line

pub alive_push : (lines : List Line) (line : Line) (n : ℕ) → alive (lines ++ line ∷ []) n ≡ after (alive lines) line n
alive_push lines line n = ap (λ (f : ℕ → Option Entry). f n) (alive_push_from (λ k. None) lines line)

pub base_push : (lines : List Line) (line : Line) → is_none lines ≡ false → base_of (lines ++ line ∷ []) ≡ base_of lines
base_push [] line h = absurd (false≢true (sym h))
base_push (Head bay base next granted ∷ lines) line h = refl
base_push (HoldLine ask entry ∷ lines) line h = refl
base_push (Back from to ∷ lines) line h = refl
base_push (EndLine ask how at ∷ lines) line h = refl
base_push (Note ask text ∷ lines) line h = refl

-- the line says nothing of this ask
pub record SaysNothing (n : ℕ) (line : Line) : Type 0 where
  pub begins_not : begins n line ≡ false
  pub leaves : (held : ℕ → Option Entry) → after held line n ≡ held n

pub in_log_more : (log : LogView) (a : Ask) (position : ℕ) (line : Line) → is_none log.lines ≡ false → SaysNothing a.number line → IsInLog log a position
    → IsInLog (adding log line) a position
in_log_more log a position line begun s x =
    let more = x.rest ++ line ∷ [] in
    record {
      front = x.front;
      rest = more;
      is = ap (λ (l : List Line). l ++ line ∷ []) x.is ∙ append_assoc x.front x.rest (line ∷ []);
      so_far = subst (λ n. n + length (log_text x.front) ≤ position) (sym (base_push log.lines line begun)) x.so_far;
      once = list_any-append (begins a.number) x.rest (line ∷ []) ∙ (ap (λ (b : Bool). b || (begins a.number line || false)) x.once ∙ ap (λ (b : Bool). b || false) s.begins_not);
      holds = alive_push log.lines line a.number ∙ (s.leaves (alive log.lines) ∙ x.holds);
    }

if_else : {X : Type 0} (b : Bool) (x y : X) → b ≡ false → (if b then x else y) ≡ y
if_else true x y h = absurd (false≢true (sym h))
if_else false x y h = refl

pub if_then : {X : Type 0} (b : Bool) (x y : X) → b ≡ true → (if b then x else y) ≡ x
if_then true x y h = refl
if_then false x y h = absurd (false≢true h)

end_says : (n m : ℕ) (how : How) (at : ℕ) → n ≢ m → SaysNothing n (EndLine m how at)
end_says n m how at ne = record { begins_not = refl; leaves = λ held. if_else (nat_eq n m) None (held n) (ne_eqb n m ne) }

hold_says : (n m : ℕ) (e : Entry) → n ≢ m → SaysNothing n (HoldLine m e)
hold_says n m e ne = record { begins_not = ne_eqb n m ne; leaves = λ held. if_else (nat_eq n m) (Some e) (held n) (ne_eqb n m ne) }

-- ---- which lines are owed

pub due_is : (m : Mark) (line l : Line) → if_due m line ≡ Some l → (m ≡ Due) × (line ≡ l)
due_is NoLine line l h = let no : ⊥ = cc in absurd no
due_is Due line l h = (refl, cc)
due_is (At position) line l h = let no : ⊥ = cc in absurd no

end_is : (n since : ℕ) (s : Stage) (m : Mark) (l : Line) → end_line_at n since s m ≡ Some l → (is_holding s ≡ false) × (how : How) × (EndLine n how since ≡ l)
end_is n since Waits m l h = let no : ⊥ = cc in absurd no
end_is n since Holds m l h = let no : ⊥ = cc in absurd no
end_is n since (Over how) m l h = (refl, how_of how, (due_is m (EndLine n (how_of how) since) l h).1)

-- ---- one writes

pub logged_end : (book : BookView) (log : LogView) (place at : ℕ) (l : Line) → IsSound book → IsStanding log → place < length book.asks
    → owed_end (ask_at book.asks place) ≡ Some l → IsLogged book log → IsLogged (give_one book place at) (adding log l)
logged_end book log place at l s standing inside owed t b p h holds mark =
    let a = ask_at book.asks place in let e = end_is a.number a.since a.stage a.end_line l owed in
    elim (other_asks book place (given at a) b s inside h) [
      | inl is ↦ absurd (false≢true (sym e.0 ∙ (ap (λ (c : Ask). is_holding c.stage) is ∙ holds)))
      | inr was ↦
          in_log_more log b p l standing.begun (subst (SaysNothing b.number) e.2 (end_says b.number a.number e.1 a.since was.1)) (t b p was.0 holds mark)
    ]

pub logged_hold : (book : BookView) (log : LogView) (place : ℕ) (l : Line) → IsSound book → IsStanding log → place < length book.asks
    → owed_hold (ask_at book.asks place) ≡ Some l → IsLogged book log → IsLogged (give_one book place (end_of (adding log l))) (adding log l)
logged_hold book log place l s standing inside owed t b p h holds mark =
    let a = ask_at book.asks place in let at = end_of (adding log l) in let e = due_is a.hold_line (HoldLine a.number (entry_of a)) l owed in
    elim (other_asks book place (given at a) b s inside h) [
      | inl is ↦
          let now : At at ≡ At p = ap (given_mark at) (sym e.0) ∙ (ap (λ (c : Ask). c.hold_line) is ∙ mark) in
          let same : at ≡ p = cc in
          subst (λ (c : Ask). IsInLog (adding log l) c p) is (record {
            front = log.lines ++ l ∷ [];
            rest = [];
            is = sym (append-nil (log.lines ++ l ∷ []));
            so_far = omega (arith, same);
            once = refl;
            holds = alive_push log.lines l a.number ∙ subst (λ (k : Line). after (alive log.lines) k a.number ≡ Some (entry_of a)) e.1
                (if_then (nat_eq a.number a.number) (Some (entry_of a)) (alive log.lines a.number) (eq-eqb a.number a.number refl));
          })
      | inr was ↦
          in_log_more log b p l standing.begun (subst (SaysNothing b.number) e.1 (hold_says b.number a.number (entry_of a) was.1)) (t b p was.0 holds mark)
    ]

-- whatever came of it
pub logged_after : (owed : Ask → Option Line) (book book' : BookView) (log log' : LogView) (place : ℕ) (line : Option Line) (r : Result (Unit {0}) AllocError)
    → ((l : Line) → owed (ask_at book.asks place) ≡ Some l → IsLogged (give_one book place (end_of (adding log l))) (adding log l))
    → line ≡ owed (ask_at book.asks place) → OnOk r (WritesThis line place (pages book log) (pages book' log'))
    → OnErr r (pages book' log' ≡ pages book log) → IsLogged book log → IsLogged book' log'
logged_after owed book book' log log' place line (Err e) step is writes refused t = subst (λ (x : Pages). IsLogged x.book x.log) (sym refused) t
logged_after owed book book' log log' place None (Ok u) step is writes refused t = subst (λ (x : Pages). IsLogged x.book x.log) (sym writes) t
logged_after owed book book' log log' place (Some l) (Ok u) step is writes refused t =
    subst (λ (x : Pages). IsLogged x.book x.log) (sym writes) (step l (sym is))
