-- What clap makes of the first word.
use Rattle.std.proofs.Common.{◌≡◌, ◌∙◌, ◌++◌, ℕ, Bool, true, false, ◌&&◌, List, [], ◌∷◌, Some, None, refl, sym, ap, codes, fold, append-nil, append_assoc}
use Rattle.std.specs.Prelude.{is_some}
use Rattle.std.specs.Str.{bytes_eq}
use Rattle.clap.specs.Lexer.{long_of}
use Rattle.clap.specs.Kinds.{Kinds, or_else}
use Rattle.clap.specs.Simple.{App, Shape, entered, names_of}
use Rattle.clap.specs.Walk.{Held, Names, Rule, Step, Text, Walk, arg_by_index, finished, idle, long_or_other, nothing_held, settled, stop_after, subcommand_met, value, walk, walk_from, walked}
use Rattle.clap.specs.Faults.{built_fault, check_fault, defaults_fault, entered_fault, flag_word_fault, settle_fault, step_fault, turn_fault, walk_fault}
use Rattle.command_line.proofs.Flags.{IsPlainRules, first_nil, held, second_nil, stays}
use Rattle.command_line.proofs.Walks.{between, both_nil, no_place}

abbrev pub end_of_top : Shape → Held → Bool → Kinds
end_of_top s end has =
    or_else (settle_fault s.rules s.args_override_self end) (or_else (defaults_fault (settled s.rules end).rows s.rules) (check_fault s (finished s.rules end) has))

-- a built command that takes words alone
pub record IsTop (b : App) : Type 0 where
  pub flags : IsPlainRules b.top.rules
  pub places : (i : ℕ) → arg_by_index b.top.rules i ≡ None
  pub no_help : b.top.disable_help_subcommand ≡ true
  pub ends : (has : Bool) → end_of_top b.top nothing_held has ≡ []

abbrev stop_at : Text → List Text → Walk
stop_at name ws = record { held = nothing_held; waiting = idle; position = 1; is_trailing = false; stopped = Some (name, ws) }

collects : (c : List Rule) (names : Names) (name : Text) (ws rest : List Text) → fold (walked c names) (stop_at name ws) rest ≡ stop_at name (ws ++ rest)
unfolding walked
collects c names name ws [] = ap (stop_at name) (sym (append-nil ws))
collects c names name ws (v ∷ vs) = collects c names name (ws ++ v ∷ []) vs ∙ ap (stop_at name) (append_assoc ws (v ∷ []) vs)

no_faults : (s : Shape) (names : Names) (name : Text) (ws rest : List Text) → walk_fault s names (stop_at name ws) rest ≡ []
unfolding walk_fault walked
no_faults s names name ws [] = refl
no_faults s names name ws (v ∷ vs) = no_faults s names name (ws ++ v ∷ []) vs

and_false : (a : Bool) → (a && false) ≡ false
and_false true = refl
and_false false = refl

last_nil : (a : Kinds) → or_else a [] ≡ a
last_nil [] = refl
last_nil (k ∷ ks) = refl

-- a word of the program is entered, with the words after it
pub meets : (b : App) → IsTop b → (word name : Text) (rest : List Text) → subcommand_met (names_of b) idle word ≡ Some name
    → (stop_after b.top.rules (names_of b) (word ∷ rest) ≡ Some (name, rest)) × (built_fault b nothing_held (word ∷ rest) ≡ entered_fault b (Some (name, rest)))
unfolding walk_fault walked
meets b k word name rest met =
    let c = b.top.rules in
    let names = names_of b in
    let w1 : walked c names (walk_from nothing_held) word ≡ stop_at name [] = rw met refl in
    let w : walk c names nothing_held (word ∷ rest) ≡ stop_at name rest = ap (λ x. fold (walked c names) x rest) w1 ∙ collects c names name [] rest in
    let here : turn_fault b.top names (walk_from nothing_held) word ≡ [] = rw (met, k.no_help, and_false (bytes_eq name (codes "help"))) refl in
    let later : walk_fault b.top names (walked c names (walk_from nothing_held) word) rest ≡ [] = ap (λ x. walk_fault b.top names x rest) w1 ∙ no_faults b.top names name [] rest in
    let turns : walk_fault b.top names (walk_from nothing_held) (word ∷ rest) ≡ [] = both_nil _ _ here later in
    let below : built_fault b nothing_held (word ∷ rest) ≡ or_else (walk_fault b.top names (walk_from nothing_held) (word ∷ rest))
    (or_else (entered_fault b (Some (name, rest))) (end_of_top b.top nothing_held (is_some (entered b (Some (name, rest)))))) =
    ap (λ (x : Walk). or_else (walk_fault b.top names (walk_from nothing_held) (word ∷ rest))
    (or_else (entered_fault b x.stopped) (end_of_top b.top x.held (is_some (entered b x.stopped))))) w in (
      ap (λ (x : Walk). x.stopped) w,
      below ∙ ap (λ x. or_else x (or_else (entered_fault b (Some (name, rest))) (end_of_top b.top nothing_held (is_some (entered b (Some (name, rest))))))) turns
          ∙ ap (or_else (entered_fault b (Some (name, rest)))) (k.ends _) ∙ last_nil _,
    )

abbrev other_met : App → Text → Held × Step
other_met b word = long_or_other b.top.rules idle word (long_of word) nothing_held

-- a word that isn't the program's is `--`, and stands last
pub other : (b : App) → IsTop b → (word : Text) (rest : List Text) → subcommand_met (names_of b) idle word ≡ None → built_fault b nothing_held (word ∷ rest) ≡ []
    → (bytes_eq word (45 ∷ 45 ∷ []) ≡ true) × (rest ≡ [])
unfolding walk_fault walked
other b k word rest met h = go (bytes_eq word (45 ∷ 45 ∷ [])) refl rest (first_nil _ _ h)
  where
    go : (t : Bool) → bytes_eq word (45 ∷ 45 ∷ []) ≡ t → (rest : List Text) → walk_fault b.top (names_of b) (walk_from nothing_held) (word ∷ rest) ≡ []
        → (bytes_eq word (45 ∷ 45 ∷ []) ≡ true) × (rest ≡ [])
    go true e [] h = (e, refl)
    go true e (v ∷ vs) h =
        let w1 : walked b.top.rules (names_of b) (walk_from nothing_held) word ≡ between [] None 1 true = rw (met, e) refl in
        let later : walk_fault b.top (names_of b) (walked b.top.rules (names_of b) (walk_from nothing_held) word) (v ∷ vs) ≡ [] =
        second_nil (turn_fault b.top (names_of b) (walk_from nothing_held) word) _ h in
        let tail : walk_fault b.top (names_of b) (between [] None 1 true) (v ∷ vs) ≡ [] = ap (λ x. walk_fault b.top (names_of b) x (v ∷ vs)) (sym w1) ∙ later in
        let turn : turn_fault b.top (names_of b) (between [] None 1 true) v ≡ [] = first_nil _ _ tail in
        absurd (no_place b.top 1 (held [] None) turn (k.places 1))
    go false e rest h =
        let turn : turn_fault b.top (names_of b) (walk_from nothing_held) word ≡ [] = first_nil _ _ h in
        let raw : or_else (flag_word_fault b.top.rules b.top.args_override_self (long_of word) word nothing_held) (step_fault b.top 1 (other_met b word).0 (other_met b word).1) ≡ [] =
        rw (met, e) at turn in
        let at = stays b.top.rules k.flags b.top.args_override_self [] None word (first_nil _ _ raw) in
        let step : step_fault b.top 1 nothing_held value ≡ [] = ap (λ (q : Held × Step). step_fault b.top 1 q.0 q.1) (sym at) ∙ second_nil _ _ raw in
        absurd (no_place b.top 1 nothing_held step (k.places 1))
