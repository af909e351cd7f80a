use Rattle.std.proofs.Common.{refl, ◌≡◌, ℕ, ◌-◌, List, [], ◌∷◌, ◌++◌, length, take, ◌∙◌, sym, ap, arith, append_assoc, length-append}
use Rattle.std.proofs.lemmas.List.{take_at, append-nil}
use Rattle.chained_lines.specs.Lines.{Line, bytes_of, file_of, last_seal, no_seal, read_lines, seal_after}
use Rattle.chained_lines.proofs.Ends.{file_push, nothing_put, nothing_sealed, seal_push}
use Rattle.chained_lines.proofs.sound.sound_part.Invariants.{HasRead}
use Rattle.chained_lines.proofs.sound.sound_part.Goals as goal

pub loop-found-init : goal.loop-found-init
loop-found-init c = record {
  done = [];
  front = nothing_put no_seal c.args.bytes.now;
  read = refl;
  lines = refl;
  sealed = nothing_sealed no_seal;
  few = omega arith;
}

pub loop-found-preserved : goal.loop-found-preserved
loop-found-preserved c =
    let was = c.loop-found.invariant in
    let found = c.in-Some.found in
    let line : Line = record { is_first = found.is_first; body = found.body.now } in
    let some = c.in-Some.ensures.some in
    let front = c.in-Some.ensures.front in
    let seal = c.in-Some.ensures.seal in
    let size = c.in-Some.ensures.size in
    let rest = found.rest.now in
    let behind : bytes_of c.loop-found.seal line ≡ bytes_of (last_seal no_seal was.done) line = ap (λ (s : List ℕ). bytes_of s line) was.sealed in
    record {
      done = was.done ++ line ∷ [];
      front = was.front ∙ ap (λ (t : List ℕ). file_of no_seal was.done ++ t) (front ∙ ap (λ (t : List ℕ). t ++ rest) behind)
          ∙ sym (append_assoc (file_of no_seal was.done) (bytes_of (last_seal no_seal was.done) line) rest) ∙ ap (λ (t : List ℕ). t ++ rest) (sym (file_push no_seal was.done line));
      read = was.read ∙ ap (λ (t : List Line). was.done ++ t) some ∙ sym (append_assoc was.done (line ∷ []) (read_lines found.seal rest));
      lines = omega (arith, was.lines, length-append was.done (line ∷ []));
      sealed = seal ∙ ap (λ (s : List ℕ). seal_after s line) was.sealed ∙ sym (seal_push no_seal was.done line);
      few = omega (arith, was.few, size);
    }

-- all that is read, once no line counts any more
all_read : (bytes rest seal : List ℕ) (count : ℕ) (is : HasRead bytes rest seal count) → read_lines seal rest ≡ [] → read_lines no_seal bytes ≡ is.done
all_read bytes rest seal count is none = is.read ∙ ap (λ (t : List Line). is.done ++ t) none ∙ append-nil is.done

all_size : (bytes rest seal : List ℕ) (count : ℕ) (is : HasRead bytes rest seal count) → length bytes - length rest ≡ length (file_of no_seal is.done)
all_size bytes rest seal count is =
    let two = length-append (file_of no_seal is.done) rest in
    omega (arith, ap length is.front, two)

all_bytes : (bytes rest seal : List ℕ) (count : ℕ) (is : HasRead bytes rest seal count) → take (length bytes - length rest) bytes ≡ file_of no_seal is.done
all_bytes bytes rest seal count is =
    let size = all_size bytes rest seal count is in
    ap (λ (t : List ℕ). take (length bytes - length rest) t) is.front ∙ take_at (file_of no_seal is.done) rest (length bytes - length rest) (sym size)

pub returns-clause-lines : goal.returns-clause-lines
returns-clause-lines c =
    let all = all_read c.args.bytes.now c.loop-found.rest.now c.loop-found.seal c.loop-found.lines c.loop-found.invariant (c.first_line.ensures.none c.in_default.is) in
    c.loop-found.invariant.lines ∙ ap length (sym all)

pub returns-clause-size : goal.returns-clause-size
returns-clause-size c =
    let all = all_read c.args.bytes.now c.loop-found.rest.now c.loop-found.seal c.loop-found.lines c.loop-found.invariant (c.first_line.ensures.none c.in_default.is) in
    all_size c.args.bytes.now c.loop-found.rest.now c.loop-found.seal c.loop-found.lines c.loop-found.invariant ∙ ap (λ (ls : List Line). length (file_of no_seal ls)) (sym all)

pub returns-clause-bytes : goal.returns-clause-bytes
returns-clause-bytes c =
    let all = all_read c.args.bytes.now c.loop-found.rest.now c.loop-found.seal c.loop-found.lines c.loop-found.invariant (c.first_line.ensures.none c.in_default.is) in
    all_bytes c.args.bytes.now c.loop-found.rest.now c.loop-found.seal c.loop-found.lines c.loop-found.invariant ∙ ap (λ (ls : List Line). file_of no_seal ls) (sym all)

pub returns-clause-seal : goal.returns-clause-seal
returns-clause-seal c =
    let all = all_read c.args.bytes.now c.loop-found.rest.now c.loop-found.seal c.loop-found.lines c.loop-found.invariant (c.first_line.ensures.none c.in_default.is) in
    c.loop-found.invariant.sealed ∙ ap (λ (ls : List Line). last_seal no_seal ls) (sym all)
