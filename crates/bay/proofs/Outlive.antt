-- Tokens outlive a crash.
use Rattle.std.proofs.Common.{◌≡◌, ◌⊎◌, ℕ, zero, suc, ◌+◌, ◌≤◌, Bool, true, false, if◌then◌else◌, List, [], ◌∷◌, ◌++◌, length, append_assoc, Option, Some, None, refl, sym, ap, ◌∙◌, subst, inl, inr, arith}
use Rattle.std.specs.Prelude.{◌==◌}
use Rattle.std.proofs.lemmas.List.{append-nil}
use Rattle.bay_book.specs.declared.ask.Heard.TheVariants.{Holds as HeardHolds}
use Rattle.bay_book.specs.declared.ask.Ask.{Ask}
use Rattle.bay_book.specs.declared.ask.Mark.TheVariants.{At}
use Rattle.bay_book.specs.declared.ask.Stage.{Stage}
use Rattle.bay_book.specs.declared.ask.Stage.TheVariants.{Waits, Holds, Over}
use Rattle.bay_book.specs.Asks.{ask_at, is_holding, no_ask, IsSoundAsk}
use Rattle.bay_log.specs.declared.line.Entry.{Entry}
use Rattle.bay_log.specs.declared.line.Line.{Line}
use Rattle.bay_log.specs.declared.line.Line.TheVariants.{Head, Hold, Back, End, Note}
use Rattle.bay_log.specs.Lines.{base_of, bay_of}
use Rattle.bay_log.specs.Logs.{LogView, end_of, turning, adding, sending, failing}
use Rattle.bay_log.specs.Alive.{after, alive, alive_from}
use Rattle.bay_log.specs.Laws.{BeginsWith, CutLinesAreRead, HoldsAtTheCut}
use Rattle.bay.specs.Members.{Has}
use Rattle.bay.specs.Views.{RoomView}
use Rattle.bay.specs.Pages.{entry_of, pages}
use Rattle.bay.specs.Restoring.{token_of}
use Rattle.bay.specs.Cores.{core}
use Rattle.bay.specs.Turning.{with_classes, hold_line, with_line_at, filled, log_after, book_after}
use Rattle.bay.specs.Bays.{BayView, with_log, IsKept, IsBayCall, IsSure, TokensOutlive}
use Rattle.bay.proofs.Members.{place_of, append_first}
use Rattle.bay.proofs.Kept.{told_written}
use Rattle.bay.proofs.LogLines.{base_more}
use Rattle.bay.proofs.Given.{writes_give}
use Rattle.bay.proofs.SafeLines.{given_is_written, same_entry}
use Rattle.bay.proofs.Through.{goes_on}
use Rattle.bay.proofs.Tokens.{Rose, rose_kept, rose_none, rose_by_call, rose_by_tell, have_tokens}

-- ---- a hold has its token by a line

if_either : {A : Type 0} (b : Bool) (u y : Option A) (x : A) → (if b then u else y) ≡ Some x → (u ≡ Some x) ⊎ (y ≡ Some x)
if_either true u y x h = inl h
if_either false u y x h = inr h

given_by : (held : ℕ → Option Entry) (line : Line) (n : ℕ) (e : Entry) → after held line n ≡ Some e
    → ((m : ℕ) × (held m ≡ Some e)) ⊎ (token_of line ≡ e.token)
given_by held (Head bay base next granted) n e h = inl (n, h)
given_by held (Hold ask entry) n e h = elim (if_either (n == ask) (Some entry) (held n) e h) [
  | inl so ↦ inr (ap (λ (y : Entry). y.token) (same_entry entry e so))
  | inr was ↦ inl (n, was)
]
given_by held (Back from to) n e h = elim (if_either (n == to) (held from) (if n == from then None else held n) e h) [
  | inl so ↦ inl (from, so)
  | inr r ↦ elim (if_either (n == from) None (held n) e r) [ inl no_ ↦ (let no : ⊥ = cc in absurd no) | inr was ↦ inl (n, was) ]
]
given_by held (End ask how at) n e h =
    elim (if_either (n == ask) None (held n) e h) [ inl no_ ↦ (let no : ⊥ = cc in absurd no) | inr was ↦ inl (n, was) ]
given_by held (Note ask text) n e h = inl (n, h)

given_from : (held : ℕ → Option Entry) (lines : List Line) (n : ℕ) (e : Entry) → alive_from held lines n ≡ Some e
    → ((m : ℕ) × (held m ≡ Some e)) ⊎ ((line : Line) × Has lines line × (token_of line ≡ e.token))
given_from held [] n e h = inl (n, h)
given_from held (line ∷ lines) n e h = elim (given_from (after held line) lines n e h) [
  | inl now ↦ elim (given_by held line now.0 e now.1) [
    | inl was ↦ inl was
    | inr is ↦ inr (line, inl refl, is)
  ]
  | inr later ↦ inr (later.0, inr later.1, later.2)
]

says_token : (lines : List Line) (n : ℕ) (e : Entry) → alive lines n ≡ Some e → (line : Line) × Has lines line × (token_of line ≡ e.token)
says_token lines n e h = elim (given_from (λ m. None) lines n e h) [
  | inl was ↦ (let is = was.1 in let no : ⊥ = cc in absurd no)
  | inr found ↦ found
]

-- ---- whoever was told

told_sure : (x : BayView) → IsKept x → HoldsAtTheCut → (a : Ask) (position : ℕ) → Has x.room.book.asks a → a.stage ≡ Holds → a.heard ≡ HeardHolds
    → a.hold_line ≡ At position → IsSure x a.token
told_sure x k behind a position h holds told mark =
    let p = place_of x.room.book.asks a no_ask h in
    let sound : IsSoundAsk x.room.book.durable a = subst (IsSoundAsk x.room.book.durable) p.2 (k.room.book.each p.0 no_ask p.1) in
    let written = told_written x.room.book a position sound holds told mark in
    let l = k.logged.held a position h (ap is_holding holds) mark in
    let n = a.number in
    let here = behind.behind n (entry_of a) l.front l.rest (ap (λ (z : List Line). alive z n) (sym l.is) ∙ l.holds) l.once in
    let says = says_token l.front n (entry_of a) here in
    let token : token_of says.0 ≡ a.token = says.2 in
    record {
      front = l.front;
      begins = (l.rest, l.is);
      within = (let so = l.so_far in omega (arith, so, written));
      line = says.0;
      has = says.1;
      its = omega (arith, token);
      few = (have_tokens x.room.book k.room.book).within a h;
    }

-- ---- it stays sure

sure_more : (x new : BayView) (token : ℕ) → IsKept x → BeginsWith new.log.lines x.log.lines → x.room.book.durable ≤ new.room.book.durable
    → x.room.book.granted ≤ new.room.book.granted → IsSure x token → IsSure new token
sure_more x new token k more later risen s =
    let base : base_of new.log.lines ≡ base_of x.log.lines = ap base_of more.1 ∙ base_more x.log.lines more.0 k.standing.begun in
    record {
      front = s.front;
      begins = (
        s.begins.0 ++ more.0,
        more.1 ∙ (ap (λ (l : List Line). l ++ more.0) s.begins.1 ∙ append_assoc s.front s.begins.0 more.0),
      );
      within = (let w = s.within in omega (arith, w, base, later));
      line = s.line;
      has = s.has;
      its = s.its;
      few = (let f = s.few in omega (arith, f, risen));
    }

same_lines : (x new : BayView) → new.log ≡ x.log → BeginsWith new.log.lines x.log.lines
same_lines x new log = ([], ap (λ (l : LogView). l.lines) log ∙ sym (append-nil x.log.lines))

has_with : (log : LogView) (line : Line) (s : Stage) (x : Line) → Has log.lines x → Has (with_line_at log line s).lines x
has_with log line Waits x h = h
has_with log line Holds x h = append_first log.lines (line ∷ []) x h
has_with log line (Over how) x h = h

-- the new file's head stays in it
has_filled : (log : LogView) (asks : List Ask) (n : ℕ) (x : Line) → Has log.lines x → Has (filled log asks n).lines x
has_filled log asks zero x h = h
has_filled log asks (suc n) x h =
    has_with (filled log asks n) (hold_line (ask_at asks n)) (ask_at asks n).stage x (has_filled log asks n x h)

sure_turned : (keeps : Bool) (x new : BayView) (token : ℕ) → IsKept x → new.log ≡ log_after keeps x.room.book x.log
    → (book_after keeps x.room.book x.log).durable ≤ new.room.book.durable → (book_after keeps x.room.book x.log).granted ≤ new.room.book.granted
    → IsSure x token → IsSure new token
sure_turned true x new token k log later risen s =
    let book = x.room.book in
    let head : Line = Head (bay_of x.log.lines) (end_of x.log) book.next book.granted in
    let f = s.few in
    record {
      front = new.log.lines;
      begins = ([], sym (append-nil new.log.lines));
      within = (let size = ap end_of log in omega (arith, size, later));
      line = head;
      has = subst (λ (l : LogView). Has l.lines head) (sym log)
          (has_filled (turning x.log book.next book.granted) book.asks (length book.asks) head (inl refl));
      its = omega (arith, f);
      few = omega (arith, f, risen);
    }
sure_turned false x new token k log later risen s = sure_more x new token k (same_lines x new log) later risen s

stays_sure : (x new : BayView) (token : ℕ) → IsKept x → IsBayCall x new → IsSure x token → IsSure new token
stays_sure x new token k (inl c) s =
    let rose = rose_by_call x.room new.room c.0.0 c.0.1 in sure_more x new token k (same_lines x new c.1) rose.durable rose.rises.largest s
stays_sure x new token k (inr (inl c)) s =
    let rose = rose_by_tell x.room new.room c.0.0 c.0.1 c.0.2 in sure_more x new token k (same_lines x new c.1) rose.durable rose.rises.largest s
stays_sure x new token k (inr (inr (inl c))) s =
    let old = pages x.room.book x.log in let given = pages new.room.book new.log in
    let only = given_is_written.only old given (writes_give c.0 old given k.room.book c.1.writes) in
    let durable = only.durable in
    let granted = only.granted in
    sure_more x new token k only.lines (omega (arith, durable)) (omega (arith, granted)) s
stays_sure x new token k (inr (inr (inr (inl c)))) s =
    subst (λ (y : BayView). IsSure y token) (sym c.3)
    (sure_more x (with_log x (adding x.log (Note c.0 c.1))) token k (Note c.0 c.1 ∷ [], refl) (omega arith) (omega arith) s)
stays_sure x new token k (inr (inr (inr (inr (inl c))))) s =
    subst (λ (y : BayView). IsSure y token) (sym c)
    (sure_more x (with_log x (sending x.log)) token k ([], sym (append-nil x.log.lines)) (omega arith) (omega arith) s)
stays_sure x new token k (inr (inr (inr (inr (inr (inl c)))))) s =
    let lines : new.log.lines ≡ x.log.lines = ap (λ (l : LogView). l.lines) c.2 in
    let durable = ap (λ (r : RoomView). r.book.durable) c.1 in
    let granted = ap (λ (r : RoomView). r.book.granted) c.1 in
    sure_more x new token k ([], lines ∙ sym (append-nil x.log.lines)) (omega (arith, durable)) (omega (arith, granted)) s
stays_sure x new token k (inr (inr (inr (inr (inr (inr (inl c))))))) s =
    subst (λ (y : BayView). IsSure y token) (sym c)
    (sure_more x (with_log x (failing x.log)) token k ([], sym (append-nil x.log.lines)) (omega arith) (omega arith) s)
stays_sure x new token k (inr (inr (inr (inr (inr (inr (inr c))))))) s =
    let r = x.room in let keeps = r.terms.keeps in let book = book_after keeps r.book x.log in
    let rose = goes_on (Rose book) (with_classes r c.0) (rose_kept keeps book) c.1 (core r.line book) new.room c.3.changes (rose_none book) in
    sure_turned keeps x new token k c.3.log_is rose.durable rose.rises.largest s

-- ---- the law

pub tokens_outlive : (x : BayView) → IsKept x → CutLinesAreRead → HoldsAtTheCut → TokensOutlive x
tokens_outlive x k cut behind = record {
  told = told_sure x k behind;
  stays = λ new token c s. stays_sure x new token k c s;
  back = λ token s classes terms limit most head file lost now used y is enough r.
      let lines = x.log.lines in let found = r.found in
      let within = s.within in
      let whole = cut.whole lines file lost found k.standing.lines is r.read s.front s.begins (omega (arith, within, enough)) in
      let has : Has found.lines.items s.line =
      subst (λ (l : List Line). Has l s.line) (sym whole.1) (append_first s.front whole.0 s.line s.has) in
      let p = place_of found.lines.items s.line s.line has in
      let most_ = subst (λ (l : Line). token_of l ≤ y.room.book.granted) p.2 (r.back.tokens p.0 s.line p.1) in
      let its = s.its in
      omega (arith, its, most_);
}
