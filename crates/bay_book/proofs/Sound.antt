-- Each call leaves a book as sound as it was.
use Rattle.std.proofs.Common.{◌≡◌, ◌≢◌, ℕ, ◌+◌, ◌<◌, ◌≤◌, max, Bool, true, false, ◌||◌, not, nat_le, nat_eq, List, [], length, set, get_or, Option, None, Some, refl, sym, ap, ◌∙◌, subst, inl, inr, arith, length-set}
use Rattle.std.specs.Prelude.{All, AllPairs}
use Rattle.std.proofs.lemmas.Bool.{cases_eq, eq-eqb, false≢true, leb-false, leb-true, le-leb}
use Rattle.std.proofs.lemmas.List.{get_or-set_same, get_or-set_other, get_or_default, get_or-map, length-map}
use Rattle.std.proofs.lemmas.List.Elements.{All-set, All-push, All-map, All-filter}
use Rattle.std.proofs.lemmas.List.Quantifiers.{all_pairs_push}
use Rattle.std.proofs.lemmas.List.Kept.{AllPairs-filter}
use Rattle.bay_book.specs.declared.ask.Ask.{Ask}
use Rattle.bay_book.specs.declared.ask.End.{End}
use Rattle.bay_book.specs.declared.ask.Heard.{Heard}
use Rattle.bay_book.specs.declared.ask.Heard.TheVariants.{Nothing, Holds as HeardHolds, End as HeardEnd}
use Rattle.bay_book.specs.declared.ask.Mark.{Mark}
use Rattle.bay_book.specs.declared.ask.Mark.TheVariants.{None as NoLine, Due, At}
use Rattle.bay_book.specs.declared.ask.Outcome.{Outcome}
use Rattle.bay_book.specs.declared.ask.Outcome.TheVariants.{Holds as ToldHolds}
use Rattle.bay_book.specs.declared.ask.Stage.{Stage}
use Rattle.bay_book.specs.declared.ask.Stage.TheVariants.{Waits, Holds, Over}
use Rattle.bay_book.specs.Asks.{no_ask, ask_at, is_owed, is_written, kept_mark, end_mark, given_mark, turned_mark, asker, holding, over, gone_since, back_again, given, turned, heard_of, hearing, is_done, IsSoundAt, IsSoundAsk, is_waiting, restored}
use Rattle.bay_book.specs.Telling.{to_tell, to_tell_at, if_may}
use Rattle.bay_book.specs.Restoring.{is_against, MayBeRestored}
use Rattle.bay_book.specs.Books.{BookView, IsSound, with_ask, add, give, turn, reach, purge, restore, hold}
use Rattle.bay_book.proofs.Counts.{number_of, count_set, count_push, count_kept, one_less, waiting_give, waiting_turn, nobody_waits}

-- ---- one ask

isnt_end : (h : Heard) → h ≡ Nothing → h ≡ HeardEnd → ⊥
isnt_end h a b = cc

isnt_holds : (h : Heard) → h ≡ Nothing → h ≡ HeardHolds → ⊥
isnt_holds h a b = cc

pub sound_holding : (durable needs now : ℕ) (keeps : Bool) (token : ℕ) (a : Ask) → 1 ≤ token → a.stage ≡ Waits → IsSoundAsk durable a
    → IsSoundAsk durable (holding needs now keeps token a)
sound_holding durable needs now keeps token a some waits h =
    let w : IsSoundAt durable a Waits = subst (IsSoundAt durable a) waits h in
    (λ e. isnt_end a.heard w.1 e, λ e. absurd (isnt_holds a.heard w.1 e), w.3, some)

kept_isnt_owed : (m : Mark) → is_owed (kept_mark m) ≡ false
kept_isnt_owed NoLine = refl
kept_isnt_owed Due = refl
kept_isnt_owed (At position) = refl

no_end_of_none : (m : Mark) → kept_mark m ≡ NoLine → end_mark m ≡ NoLine
no_end_of_none NoLine h = refl
no_end_of_none Due h = refl
no_end_of_none (At position) h = absurd (at_isnt position h)
  where
    at_isnt : (p : ℕ) → At p ≡ NoLine → ⊥
    at_isnt p e = cc

pub sound_over : (durable : ℕ) (how : End) (now : ℕ) (a : Ask) → IsSoundAsk durable (over how now a)
sound_over durable how now a = (refl, kept_isnt_owed a.hold_line, no_end_of_none a.hold_line)

sound_gone_at : (durable moment : ℕ) (a : Ask) (s : Stage) → IsSoundAt durable a s → IsSoundAt durable (gone_since moment a) s
sound_gone_at durable moment a Waits h = h
sound_gone_at durable moment a Holds h = h
sound_gone_at durable moment a (Over how) h = h

pub sound_gone : (durable moment : ℕ) (a : Ask) → IsSoundAsk durable a → IsSoundAsk durable (gone_since moment a)
sound_gone durable moment a h = sound_gone_at durable moment a a.stage h

sound_back_at : (durable : ℕ) (a : Ask) (s : Stage) → IsSoundAt durable a s → IsSoundAt durable (back_again a) s
sound_back_at durable a Waits h = h
sound_back_at durable a Holds h = h
sound_back_at durable a (Over how) h = h

pub sound_back : (durable : ℕ) (a : Ask) → IsSoundAsk durable a → IsSoundAsk durable (back_again a)
sound_back durable a h = sound_back_at durable a a.stage h

given_isnt_owed : (at : ℕ) (m : Mark) → is_owed (given_mark at m) ≡ false
given_isnt_owed at NoLine = refl
given_isnt_owed at Due = refl
given_isnt_owed at (At position) = refl

given_none : (at : ℕ) (m : Mark) → given_mark at m ≡ NoLine → m ≡ NoLine
given_none at NoLine h = refl
given_none at Due h = absurd (at_isnt at h)
  where
    at_isnt : (p : ℕ) → At p ≡ NoLine → ⊥
    at_isnt p e = cc
given_none at (At position) h = h

given_written : (durable at : ℕ) (m : Mark) → is_written durable m ≡ true → is_written durable (given_mark at m) ≡ true
given_written durable at NoLine h = refl
given_written durable at Due h = absurd (false≢true h)
given_written durable at (At position) h = h

sound_given_at : (durable at : ℕ) (a : Ask) (s : Stage) → IsSoundAt durable a s → IsSoundAt durable (given at a) s
sound_given_at durable at a Waits h = (h.0, h.1, ap (given_mark at) h.2, ap (given_mark at) h.3, h.4)
sound_given_at durable at a Holds h = (h.0, λ e. given_written durable at a.hold_line (h.1 e), ap (given_mark at) h.2, h.3)
sound_given_at durable at a (Over how) h = (h.0, given_isnt_owed at a.hold_line, λ e. ap (given_mark at) (h.2 (given_none at a.hold_line e)))

pub sound_given : (durable at : ℕ) (a : Ask) → IsSoundAsk durable a → IsSoundAsk durable (given at a)
sound_given durable at a h = sound_given_at durable at a a.stage h

written_later : (durable later : ℕ) (m : Mark) → durable ≤ later → is_written durable m ≡ true → is_written later m ≡ true
written_later durable later NoLine le h = refl
written_later durable later Due le h = h
written_later durable later (At position) le h = le-leb position later (omega (arith, leb-true position durable h, le))

sound_later_at : (durable later : ℕ) (a : Ask) (s : Stage) → durable ≤ later → IsSoundAt durable a s → IsSoundAt later a s
sound_later_at durable later a Waits le h = h
sound_later_at durable later a Holds le h = (h.0, λ e. written_later durable later a.hold_line le (h.1 e), h.2, h.3)
sound_later_at durable later a (Over how) le h = h

pub sound_later : (durable later : ℕ) (a : Ask) → durable ≤ later → IsSoundAsk durable a → IsSoundAsk later a
sound_later durable later a le h = sound_later_at durable later a a.stage le h

-- the line of one that holds is in the new file
sound_turned_at : (durable at : ℕ) (a : Ask) (s : Stage) → a.stage ≡ s → at ≤ durable → IsSoundAt durable a s → IsSoundAt durable (turned at a) s
sound_turned_at durable at a Waits is le h = (h.0, h.1, ap (λ (t : Stage). turned_mark at t a.hold_line) is ∙ h.2, h.3, h.4)
sound_turned_at durable at a Holds is le h =
    (h.0, λ e. ap (λ (t : Stage). is_written durable (turned_mark at t a.hold_line)) is ∙ le-leb at durable le, h.2, h.3)
sound_turned_at durable at a (Over how) is le h =
    let same : turned_mark at a.stage a.hold_line ≡ a.hold_line = ap (λ (t : Stage). turned_mark at t a.hold_line) is in
    (h.0, ap is_owed same ∙ h.1, λ e. h.2 (sym same ∙ e))

pub sound_turned : (durable at : ℕ) (a : Ask) → at ≤ durable → IsSoundAsk durable a → IsSoundAsk durable (turned at a)
sound_turned durable at a le h = sound_turned_at durable at a a.stage refl le h

pub none_told : (o : Option Outcome) (what : Outcome) → o ≡ None → o ≡ Some what → ⊥
none_told o what n e = cc

pub may_is : (b : Bool) (said what : Outcome) → if_may b said ≡ Some what → (b ≡ true) × (said ≡ what)
may_is true said what h = (refl, cc)
may_is false said what h = absurd (none_told (if_may false said) what refl h)

holds_heard : (what : Outcome) → ToldHolds ≡ what → heard_of what ≡ HeardEnd → ⊥
holds_heard what is e = isnt (ap heard_of is ∙ e)
  where
    isnt : HeardHolds ≡ HeardEnd → ⊥
    isnt x = cc

sound_hearing_at : (durable : ℕ) (a : Ask) (what : Outcome) (s : Stage) (h : Heard) → to_tell_at durable a s h ≡ Some what → IsSoundAt durable a s
    → IsSoundAt durable (hearing what a) s
sound_hearing_at durable a what Waits h t x = absurd (none_told _ what refl t)
sound_hearing_at durable a what Holds Nothing t x =
    let m = may_is (is_written durable a.hold_line) ToldHolds what t in (λ e. holds_heard what m.1 e, λ e. m.0, x.2, x.3)
sound_hearing_at durable a what Holds HeardHolds t x = absurd (none_told _ what refl t)
sound_hearing_at durable a what Holds HeardEnd t x = absurd (none_told _ what refl t)
sound_hearing_at durable a what (Over how) h t x = x

pub sound_hearing : (durable : ℕ) (a : Ask) (what : Outcome) → to_tell durable a ≡ Some what → IsSoundAsk durable a → IsSoundAsk durable (hearing what a)
sound_hearing durable a what t h = sound_hearing_at durable a what a.stage a.heard t h

-- ---- the book

pub sound_none : (next granted : ℕ) → granted ≤ next → IsSound (record { asks = []; next = next; granted = granted; durable = 0 })
sound_none next granted few = record {
  rises = λ i k d less within. absurd (omega (arith, within));
  below = λ k d inside. absurd (omega (arith, inside));
  each = λ k d inside. absurd (omega (arith, inside));
  tokens = λ i k d less within. absurd (omega (arith, within));
  within = λ k d inside. absurd (omega (arith, inside));
  room = omega (arith, few);
}

-- a changed ask has this number of it as before
same_at : (f : Ask → ℕ) (asks : List Ask) (j i : ℕ) (a d : Ask) → j < length asks → f a ≡ f (ask_at asks j) → i < length asks
    → f (get_or (set asks j a) i d) ≡ f (get_or asks i d)
same_at f asks j i a d inside is within = elim (cases_eq i j) [
  | inl same ↦ subst (λ k. f (get_or (set asks j a) k d) ≡ f (get_or asks k d)) (sym same)
      (ap f (get_or-set_same asks j a d inside) ∙ (is ∙ ap f (get_or_default asks j no_ask d inside)))
  | inr other ↦ ap f (get_or-set_other asks j i a d other)
]

rises_set : (x : BookView) (j : ℕ) (a : Ask) → j < length x.asks → a.number ≡ (ask_at x.asks j).number → IsSound x
    → AllPairs (λ (p q : Ask). p.number < q.number) (set x.asks j a)
rises_set x j a inside is h = λ i k d less within.
    let in_k : k < length x.asks = omega (arith, within, length-set x.asks j a) in
    let in_i : i < length x.asks = omega (arith, in_k, less) in
    let before = h.rises i k d less in_k in
    omega (
      arith,
      before,
      same_at (λ (b : Ask). b.number) x.asks j i a d inside is in_i,
      same_at (λ (b : Ask). b.number) x.asks j k a d inside is in_k,
    )

below_set : (x : BookView) (j : ℕ) (a : Ask) → j < length x.asks → a.number ≡ (ask_at x.asks j).number → IsSound x
    → All (λ (b : Ask). b.number < x.next) (set x.asks j a)
below_set x j a inside is h =
    All-set (λ (b : Ask). b.number < x.next) x.asks j a (subst (λ n. n < x.next) (sym is) (h.below j no_ask inside)) h.below

-- one is changed, and has its number and its token as before, and waits no more than before
pub sound_set : (x : BookView) (j : ℕ) (a : Ask) → j < length x.asks → a.number ≡ (ask_at x.asks j).number → a.token ≡ (ask_at x.asks j).token
    → number_of (is_waiting a) ≤ number_of (is_waiting (ask_at x.asks j)) → IsSoundAsk x.durable a → IsSound x → IsSound (with_ask x j a)
sound_set x j a inside is its few sound h = record {
  rises = rises_set x j a inside is h;
  below = below_set x j a inside is h;
  each = All-set (IsSoundAsk x.durable) x.asks j a sound h.each;
  tokens = λ i k d less within.
      let in_k : k < length x.asks = omega (arith, within, length-set x.asks j a) in
      let in_i : i < length x.asks = omega (arith, in_k, less) in
      let at_i = same_at (λ (b : Ask). b.token) x.asks j i a d inside its in_i in
      let at_k = same_at (λ (b : Ask). b.token) x.asks j k a d inside its in_k in
      λ e. at_i ∙ h.tokens i k d less in_k (sym at_i ∙ (e ∙ at_k));
  within = All-set (λ (b : Ask). b.token ≤ x.granted) x.asks j a (subst (λ n. n ≤ x.granted) (sym its) (h.within j no_ask inside)) h.within;
  room = let more = count_set is_waiting x.asks j a 0 inside (omega (arith, few)) in omega (arith, more, h.room);
}

-- a token is larger than all before
new_token : (x : BookView) (j : ℕ) (a : Ask) → j < length x.asks → a.token ≡ x.granted + 1 → IsSound x
    → AllPairs (λ (p q : Ask). p.token ≡ q.token → p.token ≡ 0) (set x.asks j a)
new_token x j a inside is h = λ i k d less within.
    let in_k : k < length x.asks = omega (arith, within, length-set x.asks j a) in
    let in_i : i < length x.asks = omega (arith, in_k, less) in
    let changed : (n : ℕ) → n ≡ j → (get_or (set x.asks j a) n d).token ≡ x.granted + 1 = λ n same.
    ap (λ (m : ℕ). (get_or (set x.asks j a) m d).token) same ∙ (ap (λ (b : Ask). b.token) (get_or-set_same x.asks j a d inside) ∙ is) in
    let unchanged : (n : ℕ) → n ≢ j → (get_or (set x.asks j a) n d).token ≡ (get_or x.asks n d).token = λ n other.
    ap (λ (b : Ask). b.token) (get_or-set_other x.asks j n a d other) in
    λ e. elim (cases_eq i j) [
      | inl same ↦
          let other : k ≢ j = λ z. omega (arith, z, same, less) in
          let le = h.within k d in_k in let there = unchanged k other in let here = changed i same in
          absurd (omega (arith, le, there, here, e))
      | inr other_i ↦ elim (cases_eq k j) [
        | inl same ↦
            let le = h.within i d in_i in let there = unchanged i other_i in let here = changed k same in
            absurd (omega (arith, le, there, here, e))
        | inr other_k ↦ unchanged i other_i ∙ h.tokens i k d less in_k (sym (unchanged i other_i) ∙ (e ∙ unchanged k other_k))
      ]
    ]

pub sound_hold : (x : BookView) (place needs now : ℕ) (keeps : Bool) → place < length x.asks → (ask_at x.asks place).stage ≡ Waits → IsSound x
    → IsSound (hold x place needs now keeps)
sound_hold x place needs now keeps inside waits h =
    let a0 = ask_at x.asks place in
    let a : Ask = holding needs now keeps (x.granted + 1) a0 in
    record {
      rises = rises_set x place a inside refl h;
      below = below_set x place a inside refl h;
      each = All-set (IsSoundAsk x.durable) x.asks place a
          (sound_holding x.durable needs now keeps (x.granted + 1) a0 (omega arith) waits (h.each place no_ask inside)) h.each;
      tokens = new_token x place a inside refl h;
      within = All-set (λ (b : Ask). b.token ≤ x.granted + 1) x.asks place a (omega arith)
          (λ k d in_k. let le = h.within k d in_k in omega (arith, le));
      room = let less = one_less x.asks place a inside waits refl in omega (arith, less, h.room);
    }

pub sound_add : (x : BookView) (number class owner : ℕ) (deadline limit : Option ℕ) (now : ℕ) → x.next ≤ number → IsSound x
    → IsSound (add x number class owner deadline limit now)
sound_add x number class owner deadline limit now new h =
    let a : Ask = asker number class owner deadline limit now in
    record {
      rises = all_pairs_push (λ (p q : Ask). p.number < q.number) x.asks a h.rises (λ k d inside. let b = h.below k d inside in omega (arith, b, new));
      below = All-push (λ (b : Ask). b.number < number + 1) x.asks a (λ k d inside. let b = h.below k d inside in omega (arith, b, new)) (omega arith);
      each = All-push (IsSoundAsk x.durable) x.asks a h.each (refl, refl, refl, refl, refl);
      tokens = all_pairs_push (λ (p q : Ask). p.token ≡ q.token → p.token ≡ 0) x.asks a h.tokens (λ k d inside. λ e. e);
      within = All-push (λ (b : Ask). b.token ≤ x.granted) x.asks a h.within (omega arith);
      room = let one = count_push is_waiting x.asks a in omega (arith, one, h.room, new);
    }

-- an ask that doesn't speak against one with this number and this token
record NotAgainst (number token : ℕ) (a : Ask) : Type 0 where
  lower : a.number < number
  waits_not : is_waiting a ≡ false
  differs : a.token ≢ token

neither : (a b : Bool) → (a || b) ≡ false → (a ≡ false) × (b ≡ false)
neither false b h = (refl, h)
neither true b h = absurd (false≢true (sym h))

not_against : (number token : ℕ) (a : Ask) → is_against number token a ≡ false → NotAgainst number token a
not_against number token a h =
    let first = neither (nat_le number a.number || is_waiting a) (nat_eq a.token token) h in
    let second = neither (nat_le number a.number) (is_waiting a) first.0 in
    record {
      lower = leb-false number a.number second.0;
      waits_not = second.1;
      differs = λ same. false≢true (sym first.1 ∙ eq-eqb a.token token same);
    }

pub sound_restore : (x : BookView) (number class owner : ℕ) (limit : Option ℕ) (needs asked since gone token : ℕ) → MayBeRestored x.asks number token
    → IsSound x → IsSound (restore x number class owner limit needs asked since gone token)
sound_restore x number class owner limit needs asked since gone token may h =
    let others : (k : ℕ) (d : Ask) → k < length x.asks → NotAgainst number token (get_or x.asks k d) = λ k d inside.
    subst (NotAgainst number token) (get_or_default x.asks k no_ask d inside) (not_against number token (ask_at x.asks k) (may.nobody k inside)) in
    let a : Ask = restored number class owner limit needs asked since gone token x.durable in
    let next = max (max x.next (number + 1)) token in
    record {
      rises = all_pairs_push (λ (p q : Ask). p.number < q.number) x.asks a h.rises (λ k d inside. (others k d inside).lower);
      below = All-push (λ (b : Ask). b.number < next) x.asks a (λ k d inside. let b = h.below k d inside in omega (arith, b)) (omega arith);
      each = All-push (IsSoundAsk x.durable) x.asks a h.each
          (λ e. not_end e, λ e. le-leb x.durable x.durable (omega arith), refl, may.some);
      tokens = all_pairs_push (λ (p q : Ask). p.token ≡ q.token → p.token ≡ 0) x.asks a h.tokens (λ k d inside. λ e. absurd ((others k d inside).differs e));
      within = All-push (λ (b : Ask). b.token ≤ max x.granted token) x.asks a (λ k d inside. let b = h.within k d inside in omega (arith, b)) (omega arith);
      room = let one = count_push is_waiting x.asks a in let zero_ = nobody_waits x.asks (λ k d inside. (others k d inside).waits_not) in omega (arith, one, zero_, h.room);
    }
  where
    not_end : HeardHolds ≡ HeardEnd → ⊥
    not_end e = cc

pub sound_give : (x : BookView) (at : ℕ) → IsSound x → IsSound (give x at)
sound_give x at h = record {
  rises = λ i k d less within.
      let in_k : k < length x.asks = omega (arith, within, length-map x.asks (given at)) in
      let in_i : i < length x.asks = omega (arith, in_k, less) in
      let before = h.rises i k d less in_k in
      omega (
        arith,
        before,
        ap (λ (b : Ask). b.number) (get_or-map (given at) x.asks i d d in_i),
        ap (λ (b : Ask). b.number) (get_or-map (given at) x.asks k d d in_k),
      );
  below = All-map (λ (b : Ask). b.number < x.next) (given at) x.asks h.below;
  each = All-map (IsSoundAsk x.durable) (given at) x.asks (λ k d inside. sound_given x.durable at (get_or x.asks k d) (h.each k d inside));
  tokens = λ i k d less within.
      let in_k : k < length x.asks = omega (arith, within, length-map x.asks (given at)) in
      let in_i : i < length x.asks = omega (arith, in_k, less) in
      let at_i = ap (λ (b : Ask). b.token) (get_or-map (given at) x.asks i d d in_i) in
      let at_k = ap (λ (b : Ask). b.token) (get_or-map (given at) x.asks k d d in_k) in
      λ e. at_i ∙ h.tokens i k d less in_k (sym at_i ∙ (e ∙ at_k));
  within = All-map (λ (b : Ask). b.token ≤ x.granted) (given at) x.asks h.within;
  room = let same = waiting_give at x.asks in omega (arith, same, h.room);
}

pub sound_turn : (x : BookView) (at : ℕ) → IsSound x → IsSound (turn x at)
sound_turn x at h =
    let durable = max x.durable at in
    record {
      rises = λ i k d less within.
          let in_k : k < length x.asks = omega (arith, within, length-map x.asks (turned at)) in
          let in_i : i < length x.asks = omega (arith, in_k, less) in
          let before = h.rises i k d less in_k in
          omega (
            arith,
            before,
            ap (λ (b : Ask). b.number) (get_or-map (turned at) x.asks i d d in_i),
            ap (λ (b : Ask). b.number) (get_or-map (turned at) x.asks k d d in_k),
          );
      below = All-map (λ (b : Ask). b.number < x.next) (turned at) x.asks h.below;
      each = All-map (IsSoundAsk durable) (turned at) x.asks (λ k d inside.
          sound_turned durable at (get_or x.asks k d) (omega arith) (sound_later x.durable durable (get_or x.asks k d) (omega arith) (h.each k d inside)));
      tokens = λ i k d less within.
          let in_k : k < length x.asks = omega (arith, within, length-map x.asks (turned at)) in
          let in_i : i < length x.asks = omega (arith, in_k, less) in
          let at_i = ap (λ (b : Ask). b.token) (get_or-map (turned at) x.asks i d d in_i) in
          let at_k = ap (λ (b : Ask). b.token) (get_or-map (turned at) x.asks k d d in_k) in
          λ e. at_i ∙ h.tokens i k d less in_k (sym at_i ∙ (e ∙ at_k));
      within = All-map (λ (b : Ask). b.token ≤ x.granted) (turned at) x.asks h.within;
      room = let same = waiting_turn at x.asks in omega (arith, same, h.room);
    }

pub sound_reach : (x : BookView) (position : ℕ) → IsSound x → IsSound (reach x position)
sound_reach x position h = record {
  rises = h.rises;
  below = h.below;
  each = λ k d inside. sound_later x.durable (max x.durable position) (get_or x.asks k d) (omega arith) (h.each k d inside);
  tokens = h.tokens;
  within = h.within;
  room = h.room;
}

pub sound_purge : (x : BookView) → IsSound x → IsSound (purge x)
sound_purge x h =
    let p : Ask → Bool = λ a. not (is_done a) in
    record {
      rises = AllPairs-filter (λ (a b : Ask). a.number < b.number) p x.asks h.rises;
      below = All-filter p (λ (b : Ask). b.number < x.next) x.asks h.below;
      each = All-filter p (IsSoundAsk x.durable) x.asks h.each;
      tokens = AllPairs-filter (λ (a b : Ask). a.token ≡ b.token → a.token ≡ 0) p x.asks h.tokens;
      within = All-filter p (λ (b : Ask). b.token ≤ x.granted) x.asks h.within;
      room = let few = count_kept is_waiting p x.asks in omega (arith, few, h.room);
    }
