-- Lines that were read and served.
use Rattle.std.proofs.Common.{◌≡◌, ◌≢◌, ℕ, ◌<◌, Bool, true, false, nat_lt, cond, List, []}
use Rattle.std.proofs.Common.{◌∷◌, ◌++◌, length, refl, sym, ◌∙◌, ap, subst, append_assoc}
use Rattle.std.proofs.Common.{append-nil, length-append, arith}
use Rattle.std.specs.Prelude.{filter, Option, None, Some, Result}
use Rattle.std.proofs.lemmas.Bool.{ltb-true, lt-ltb}
use Rattle.io_streams.specs.declared.options.Options.{Options}
use Rattle.command_loop.proofs.LineLemmas.{lines-are, ended_at-feed, open-at-feed, ended_at-bytes}
use Rattle.command_loop.proofs.LineLemmas.{open-at-bytes, ends-open, HasNoFeed}
use Rattle.command_loop.specs.declared.commands.BadLine.{BadLine}
use Rattle.command_loop.specs.Lines.{has_bytes, lines, ended_lines, open_line, within_limit, longer}
use Rattle.command_loop.specs.Requests.{Request, requests, parse, parse_buffered}
use Rattle.command_loop.specs.Output.{Exchanges}
use Rattle.command_loop.specs.Private.Progress.{RunState, ServesRequest, FailsToReply}
use Rattle.command_loop.specs.Private.Progress.{ServedInOrder, ReadSoFar, StopsAtLine, ReadsOn}
use Rattle.command_loop.specs.Private.Progress.{StopsWithin}
use Rattle.command_loop.proofs.RequestLemmas.{map_append, handled-none, handled-one, handled-then}
use Rattle.command_loop.proofs.RequestLemmas.{handled-as, halts}

-- more lines were served
pub read-more : (options : Options) (start now new : RunState) (read more : List ℕ)
    (buffer buffer' : Option (List ℕ)) (extra : List (List ℕ))
    → ReadSoFar options start read now buffer
    → ended_lines (read ++ more) ≡ ended_lines read ++ extra
    → buffer' ≡ within_limit (open_line (read ++ more))
    → ServedInOrder options now (requests extra) new
    → ReadSoFar options start (read ++ more) new buffer'
read-more options start now new read more buffer buffer' extra r ends holds k =
    let all : requests (ended_lines read) ++ requests extra
    ≡ requests (ended_lines (read ++ more)) =
    sym (ap requests ends ∙ map_append parse (ended_lines read) extra) in
    record {
      handled = handled-as options start new _ _ all
          (handled-then options start now new (requests (ended_lines read)) (requests extra)
          r.handled k);
      holds = holds;
    }

-- the open line is empty
empty-open : (line : List ℕ) → Some [] ≡ within_limit line → line ≡ []
empty-open [] h = refl
empty-open (byte ∷ line) h = empty_open_at (nat_lt 4096 (length (byte ∷ line))) byte line h
  where
    empty_open_at : (v : Bool) (byte : ℕ) (line : List ℕ)
        → Some [] ≡ cond v None (Some (byte ∷ line)) → byte ∷ line ≡ []
    empty_open_at true byte line h = cc
    empty_open_at false byte line h = cc

parse_buffered-is : (line : List ℕ) → parse_buffered (within_limit line) ≡ parse line
unfolding parse
parse_buffered-is line = at (nat_lt 4096 (length line)) line refl
  where
    at : (v : Bool) (line : List ℕ) → nat_lt 4096 (length line) ≡ v
        → parse_buffered (cond v None (Some line)) ≡ parse line
    at true line h = rw h refl
    at false line h = refl

longer-within_limit : (line bytes : List ℕ) → longer (within_limit line) bytes
    ≡ within_limit (line ++ bytes)
longer-within_limit line bytes = at (nat_lt 4096 (length line)) line bytes refl
  where
    at : (v : Bool) (line bytes : List ℕ) → nat_lt 4096 (length line) ≡ v
        → longer (cond v None (Some line)) bytes ≡ within_limit (line ++ bytes)
    at true line bytes h =
        let over : 4096 < length line = ltb-true 4096 (length line) h in
        let more : nat_lt 4096 (length (line ++ bytes)) ≡ true =
        lt-ltb 4096 (length (line ++ bytes)) (omega (arith, length-append line bytes)) in
        rw more refl
    at false line bytes h = refl

-- bytes without a line feed
pub continues-bytes : (options : Options) (now : RunState) (buffer : Option (List ℕ))
    (bytes : List ℕ)
    → HasNoFeed bytes
    → ReadsOn options bytes now buffer now (longer buffer bytes)
continues-bytes options now buffer bytes none start read r =
    read-more options start now now read bytes buffer (longer buffer bytes) [] r
    (ended_at-bytes read bytes none ∙ sym (append-nil (ended_lines read)))
    (ap (λ (z : Option (List ℕ)). longer z bytes) r.holds
    ∙ longer-within_limit (open_line read) bytes
    ∙ ap within_limit (sym (open-at-bytes read bytes none)))
    (handled-none options now now refl refl refl)

-- the end of an empty line
pub continues-empty : (options : Options) (now : RunState) (buffer : Option (List ℕ))
    → buffer ≡ Some []
    → ReadsOn options (10 ∷ []) now buffer now buffer
continues-empty options now buffer is_empty start read r =
    let none_open : open_line read ≡ [] = empty-open (open_line read) (sym is_empty ∙ r.holds) in
    read-more options start now now read (10 ∷ []) buffer buffer [] r
    (ended_at-feed read ∙ ap (λ (z : List ℕ). ended_lines read ++ filter has_bytes (z ∷ []))
    none_open)
    (is_empty ∙ ap within_limit (sym (open-at-feed read)))
    (handled-none options now now refl refl refl)

has-some : (line : List ℕ) → line ≢ [] → filter has_bytes (line ∷ []) ≡ line ∷ []
has-some [] ne = absurd (ne refl)
has-some (byte ∷ line) ne = refl

not-empty : (buffer : Option (List ℕ)) (line : List ℕ) → (buffer ≡ Some [] → ⊥)
    → buffer ≡ within_limit line → line ≢ []
not-empty buffer [] ne is e = ne is
not-empty buffer (byte ∷ line) ne is e = cc

-- the end of a line that was served
pub continues-line : (options : Options) (now new : RunState) (buffer : Option (List ℕ))
    → (buffer ≡ Some [] → ⊥)
    → ServesRequest options (parse_buffered buffer) now new
    → ReadsOn options (10 ∷ []) now buffer new (Some [])
continues-line options now new buffer ne s start read r =
    let line : List ℕ = open_line read in
    let request : parse_buffered buffer ≡ parse line =
    ap parse_buffered r.holds ∙ parse_buffered-is line in
    let P : Result Request BadLine → Type 0 = λ z. ServesRequest options z now new in
    read-more options start now new read (10 ∷ []) buffer (Some []) (line ∷ []) r
    (ended_at-feed read ∙ ap (λ (z : List (List ℕ)). ended_lines read ++ z)
    (has-some line (not-empty buffer line ne r.holds)))
    (ap within_limit (sym (open-at-feed read)))
    (handled-one options (parse line) now new (subst P request s))

-- a line that ended, whose reply was not completely written
pub breaks-line : (options : Options) (now new : RunState) (buffer : Option (List ℕ))
    → (buffer ≡ Some [] → ⊥)
    → FailsToReply options (parse_buffered buffer) now new
    → StopsWithin options (10 ∷ []) now buffer new.asked new.written
breaks-line options now new buffer ne f start read r =
    let line : List ℕ = open_line read in
    let P : Result Request BadLine → Type 0 = λ z. FailsToReply options z now new in
    let Q : List ℕ → Type 0 = λ z. StopsAtLine options start z new.asked new.written in
    let failed : FailsToReply options (parse line) now new =
    subst P (ap parse_buffered r.holds ∙ parse_buffered-is line) f in
    let all : lines read ≡ ended_lines read ++ line ∷ [] =
    lines-are read ∙ ap (λ (z : List (List ℕ)). ended_lines read ++ z)
    (has-some line (not-empty buffer line ne r.holds)) in
    let open_end = ends-open read in
    let stopped : StopsAtLine options start read new.asked new.written = record {
      before = ended_lines read;
      line = line;
      ends = record { front = open_end.0; ends = open_end.1; all = all };
      halts = halts options start now new (requests (ended_lines read)) (parse line) r.handled
          failed;
    } in
    ([], 10 ∷ [], refl, ([], refl), subst Q (sym (append-nil read)) stopped)

-- the same for a line that is read at once
pub continues-whole : (options : Options) (now new : RunState) (buffer : Option (List ℕ))
    (line : List ℕ) → buffer ≡ Some [] → line ≢ [] → ServesRequest options (parse line) now new
    → ReadsOn options (10 ∷ []) now (longer buffer line) new buffer
continues-whole options now new buffer line none ne s =
    let P : Result Request BadLine → Type 0 = λ z. ServesRequest options z now new in
    rw none (continues-line options now new (within_limit line)
    (λ e. ne (empty-open line (sym e))) (subst P (sym (parse_buffered-is line)) s))

pub breaks-whole : (options : Options) (now new : RunState) (buffer : Option (List ℕ))
    (line : List ℕ) → buffer ≡ Some [] → line ≢ [] → FailsToReply options (parse line) now new
    → StopsWithin options (10 ∷ []) now (longer buffer line) new.asked new.written
breaks-whole options now new buffer line none ne f =
    let P : Result Request BadLine → Type 0 = λ z. FailsToReply options z now new in
    rw none (breaks-line options now new (within_limit line)
    (λ e. ne (empty-open line (sym e))) (subst P (sym (parse_buffered-is line)) f))

-- a stop within some input, after or before other input
pub breaks-then : (options : Options) (a b : RunState) (ha hb : Option (List ℕ)) (asked : Exchanges)
    (written : Option (List ℕ))
    (xs ys : List ℕ) → ReadsOn options xs a ha b hb → StopsWithin options ys b hb asked written
    → StopsWithin options (xs ++ ys) a ha asked written
breaks-then options a b ha hb asked written xs ys h k start read r =
    let w = k start (read ++ xs) (h start read r) in
    let P : List ℕ → Type 0 = λ z. StopsAtLine options start z asked written in (
      xs ++ w.0,
      w.1,
      ap (λ (z : List ℕ). xs ++ z) w.2 ∙ sym (append_assoc xs w.0 w.1),
      w.3,
      subst P (append_assoc read xs w.0) w.4,
    )

pub breaks-before : (options : Options) (a : RunState) (ha : Option (List ℕ)) (asked : Exchanges)
    (written : Option (List ℕ))
    (xs ys : List ℕ) → StopsWithin options xs a ha asked written
    → StopsWithin options (xs ++ ys) a ha asked written
breaks-before options a ha asked written xs ys k start read r =
    let w = k start read r in (
      w.0,
      w.1 ++ ys,
      ap (λ (z : List ℕ). z ++ ys) w.2 ∙ append_assoc w.0 w.1 ys,
      (w.3.0 ++ ys, ap (λ (z : List ℕ). z ++ ys) w.3.1),
      w.4,
    )

-- more input after some input
pub continues-then : (options : Options) (a b c : RunState) (ha hb hc : Option (List ℕ))
    (xs ys : List ℕ)
    → ReadsOn options xs a ha b hb → ReadsOn options ys b hb c hc
    → ReadsOn options (xs ++ ys) a ha c hc
continues-then options a b c ha hb hc xs ys h k start read r =
    let P : List ℕ → Type 0 = λ z. ReadSoFar options start z c hc in
    subst P (append_assoc read xs ys) (k start (read ++ xs) (h start read r))
