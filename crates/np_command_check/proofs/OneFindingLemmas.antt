-- What is found of a file is one thing. For `one_finding_says_what_holds`.
use Rattle.std.proofs.Common.{◌≡◌, ℕ, List, [], ◌∷◌, ◌++◌, All, refl, sym, ap, subst, ◌∙◌, arith}
use Rattle.std.proofs.lemmas.List.Elements.{All-contains, All-head, All-tail, Contains-append_right}
use Rattle.np_check.specs.Prelude.{allows_between}
use Rattle.np_command_check.specs.Prelude.{BreaksFirst, Broken, ChecksAll, Counterexample, EstateLists, FindsBroken, IsAskedOf, IsFirstBrokenLine, StatementLine, statement_bytes}
use Rattle.np_command.specs.Prelude.{SinkTrace}
use Rattle.np_command_check.proofs.OneListLemmas.{one-list}
use Rattle.np_command_check.proofs.OnePacketLemmas.{one-packet}
use Rattle.np_statements.specs.Prelude.{LineHolds, broken_text}

-- ---- the first statement that does not hold

broken-equal : (broken other : Broken) → broken.line ≡ other.line → broken.packet ≡ other.packet → broken.allowed ≡ other.allowed → broken ≡ other
broken-equal broken other number packet verdict = grind arith

module _ (lists : EstateLists) where
  -- a list has one
  one-broken : (line other : StatementLine) (before earlier behind later : List StatementLine) → before ++ line ∷ behind ≡ earlier ++ other ∷ later → All (LineHolds lists) before →
      All (LineHolds lists) earlier → (LineHolds lists line → ⊥) → (LineHolds lists other → ⊥) → line ≡ other
  one-broken line other [] [] behind later same hold hold' fails fails' = cc
  one-broken line other [] (one ∷ earlier) behind later same hold hold' fails fails' =
      let is : one ≡ line = cc in absurd (fails (subst (LineHolds lists) is (All-head (LineHolds lists) one earlier hold')))
  one-broken line other (one ∷ before) [] behind later same hold hold' fails fails' =
      let is : one ≡ other = cc in absurd (fails' (subst (LineHolds lists) is (All-head (LineHolds lists) one before hold)))
  one-broken line other (one ∷ before) (two ∷ earlier) behind later same hold hold' fails fails' =
      let rest : before ++ line ∷ behind ≡ earlier ++ other ∷ later = cc in
      one-broken line other before earlier behind later rest (All-tail (LineHolds lists) one before hold) (All-tail (LineHolds lists) two earlier hold') fails fails'

  -- and where all hold there is none
  none-broken : (lines : List StatementLine) (broken : Broken) → All (LineHolds lists) lines → IsFirstBrokenLine lists lines broken → ⊥
  none-broken lines broken hold is =
      is.fails (All-contains (LineHolds lists) (is.before ++ is.line ∷ is.behind) is.line (subst (All (LineHolds lists)) is.place hold)
      (Contains-append_right is.before (is.line ∷ is.behind) is.line (0, omega arith, refl)))

  -- it is told in one way
  told-once : (lines : List StatementLine) (broken other : Broken) → IsFirstBrokenLine lists lines broken → IsFirstBrokenLine lists lines other → broken ≡ other
  told-once lines broken other is is' =
      let line : is.line ≡ is'.line = one-broken is.line is'.line is.before is'.before is.behind is'.behind (sym is.place ∙ is'.place) is.earlier_hold is'.earlier_hold is.fails is'.fails in
      let packet : broken.packet ≡ other.packet = one-packet lists is.line.statement broken.packet other.packet is.first
      (subst (λ (one : StatementLine). BreaksFirst lists one.statement other.packet) (sym line) is'.first) in
      let number : broken.line ≡ other.line = is.number ∙ ap (λ (one : StatementLine). one.line) line ∙ sym is'.number in
      let verdict : broken.allowed ≡ other.allowed = is.verdict
      ∙ ap (λ (one : Counterexample). allows_between lists one.source one.destination one.family one.spot) packet ∙ sym is'.verdict in
      broken-equal broken other number packet verdict

-- ---- reports of the same file and inputs

-- what is asked is one list of statements of one estate
record AreAskedAlike (lists others : EstateLists) (lines more : List StatementLine) : Type 0 where
  lists_are : lists ≡ others
  lines_are : lines ≡ more

asked-alike : (texts : List (List ℕ)) (lists others : EstateLists) (lines more : List StatementLine) → IsAskedOf texts lists lines → IsAskedOf texts others more → AreAskedAlike lists others lines more
asked-alike texts lists others lines more asks asks' =
    record { lists_are = cc (asks.read, asks'.read); lines_are = one-list (statement_bytes texts) lines more asks.lines_are asks'.lines_are }

module _ (out other : SinkTrace) (texts : List (List ℕ)) where
  pub same-statements : (this : ChecksAll out texts) (that : ChecksAll other texts) → this.lines ≡ that.lines
  same-statements this that = one-list (statement_bytes texts) this.lines that.lines this.asks.lines_are that.asks.lines_are

  pub not-both : ChecksAll out texts → FindsBroken other texts → ⊥
  not-both this that =
      let alike = asked-alike texts this.lists that.lists this.lines that.lines this.asks that.asks in
      none-broken that.lists that.lines that.broken
      (subst (λ (lists : EstateLists). All (LineHolds lists) that.lines) alike.lists_are (subst (All (LineHolds this.lists)) alike.lines_are this.hold)) that.first

  pub same-broken : (this : FindsBroken out texts) (that : FindsBroken other texts) → this.broken ≡ that.broken
  same-broken this that =
      let alike = asked-alike texts this.lists that.lists this.lines that.lines this.asks that.asks in
      told-once that.lists that.lines this.broken that.broken
      (subst (λ (lists : EstateLists). IsFirstBrokenLine lists that.lines this.broken) alike.lists_are
      (subst (λ (lines : List StatementLine). IsFirstBrokenLine this.lists lines this.broken) alike.lines_are this.first)) that.first

  pub same-text : (this : FindsBroken out texts) (that : FindsBroken other texts) → broken_text this.lists this.broken ≡ broken_text that.lists that.broken
  same-text this that =
      let alike = asked-alike texts this.lists that.lists this.lines that.lines this.asks that.asks in
      ap (λ (lists : EstateLists). broken_text lists this.broken) alike.lists_are ∙ ap (broken_text that.lists) (same-broken this that)
