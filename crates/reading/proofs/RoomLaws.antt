-- How many rows there can be before a connection or a junction, and what that leaves.
use Prim.Native.Nat.{ℕ, ◌+◌, ◌*◌, ◌/◌, ◌≤◌, ◌<◌}
use mathlib.Core.Path.{◌≡◌, sym, subst}
use mathlib.Core.List.{List}
use native.Mathlib.Omega.{arith}
use lib.ListN.{length, get_or}
use Rattle.model.specs.Reading.{row_at}
use Rattle.words.specs.Rows.{total}
use Rattle.words.proofs.KeyLaws.{rows_in}
use Rattle.words.proofs.Laws.{total_le, total_more}
use Rattle.words.proofs.Scans.{row_fits}
use Rattle.rules.specs.Parts.{counts}
use Rattle.rules.proofs.Fits.{fit_in}
use Rattle.reading.specs.Laid.{Low, Ready, Before}
use Rattle.reading.proofs.NameLaws.{word_at}

-- connection c, after n connections, p pairs and w warnings
pub record Room (connections links : List ℕ) (c n p w : ℕ) : Type 0 where
  pub part : get_or connections (c * 14 + 12) 0 + get_or connections (c * 14 + 13) 0 ≤ length links / 4
  pub pairs : p + get_or connections (c * 14 + 13) 0 ≤ 16384
  pub warnings : w + get_or connections (c * 14 + 13) 0 < 32768

pub room : {junctions connections links : List ℕ} {c n p w : ℕ} → Ready junctions connections links
    → c < length connections / 14 → Low connections c n p w → Room connections links c n p w
room {connections = connections} {links = links} {c = c} ready there low =
    let row_ends = row_fits (length connections / 14) 14 c there in
    let rows_end = rows_in (length connections) 14 in
    let part = fit_in 14 12 13 connections (length links / 4) ready.link_parts c there in
    let begins = ready.link_parts.begins c there in
    record {
      part = part;
      pairs = omega (arith, low.pairs_low, ready.few_links);
      warnings = omega (arith, low.warnings_low, ready.few_links, ready.few_connections);
    }

-- the same connections, counted otherwise
pub low_at : {connections : List ℕ} {c d n p w : ℕ} → c ≡ d → Low connections c n p w → Low connections d n p w
low_at {connections} {n = n} {p = p} {w = w} e low = subst (λ (c : ℕ). Low connections c n p w) e low

-- one connection more
pub low_more : {connections : List ℕ} {c n p w : ℕ} (n' p' w' : ℕ) → Low connections c n p w → n' ≤ n + 1
    → p' ≤ p + get_or connections (c * 14 + 13) 0 → w' ≤ w + get_or connections (c * 14 + 13) 0 + 1
    → Low connections (c + 1) n' p' w'
low_more {connections} {c} n' p' w' low few_connections few_pairs few-warnings =
    let next = total_more c (counts 14 13 connections) in
    record {
      connections_low = omega (arith, low.connections_low);
      pairs_low = omega (arith, low.pairs_low);
      warnings_low = omega (arith, low.warnings_low);
    }

-- several that add no connection, no pair and a warning each
pub low_dropped : {connections : List ℕ} {c n p w : ℕ} (k : ℕ) → Low connections c n p w
    → Low connections (c + k) n p (w + k)
low_dropped {connections} {c} k low =
    let grown = total_le c (c + k) (counts 14 13 connections) (omega arith) in
    record {
      connections_low = omega (arith, low.connections_low);
      pairs_low = omega (arith, low.pairs_low);
      warnings_low = omega (arith, low.warnings_low);
    }

-- junction j, whose connections are those of its part, after n connections, p pairs and w warnings
pub record Ground (junctions connections : List ℕ) (j first count n p w : ℕ) : Type 0 where
  pub part : first + count ≤ length connections / 14
  pub few : first + count ≤ 16384
  pub start : Low connections first n p w
  pub kept : n ≤ first
  pub warnings : w + count ≤ 32768
  pub next : first + count ≡ total (j + 1) (counts 8 7 junctions)

pub ground : {junctions connections links : List ℕ} {j first count : ℕ} {row : List ℕ} {n p w : ℕ}
    → Ready junctions connections links → j < length junctions / 8
    → Low connections (total j (counts 8 7 junctions)) n p w → row ≡ row_at 8 junctions j → first ≡ get_or row 6 0
    → count ≡ get_or row 7 0 → Ground junctions connections j first count n p w
ground {junctions} {connections} {links} {j} {first} {count} {row} {n} {p} {w} ready there before row_is first_is
    count_is =
    let begins-at = word_at 8 j junctions 6 (omega arith) row_is first_is in
    let covers = word_at 8 j junctions 7 (omega arith) row_is count_is in
    let row_ends = row_fits (length junctions / 8) 8 j there in
    let rows_end = rows_in (length junctions) 8 in
    let part-there = fit_in 8 6 7 junctions (length connections / 14) ready.connection_parts j there in
    let begins = ready.connection_parts.begins j there in
    let first-total : first ≡ total j (counts 8 7 junctions) = omega arith in
    let low : Low connections first n p w = low_at (sym first-total) before in
    let links-before = total_le first (length connections / 14) (counts 14 13 connections) (omega arith) in
    let all-links = ready.link_parts.whole in
    record {
      part = omega arith;
      few = omega (arith, ready.few_connections);
      start = low;
      kept = low.connections_low;
      warnings = omega (arith, low.warnings_low, ready.few_connections, ready.few_links);
      next = omega (arith, total_more j (counts 8 7 junctions));
    }

-- before the first junction
pub before_all : (junctions connections : List ℕ) → Before junctions connections 0 0 0 0 0
before_all junctions connections =
    record {
      junctions_low = omega arith;
      low = record { connections_low = omega arith; pairs_low = omega arith; warnings_low = omega arith };
    }
