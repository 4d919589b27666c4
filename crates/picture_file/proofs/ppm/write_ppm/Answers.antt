use Rattle.std.proofs.Common.{◌≡◌, ◌-◌, ◌++◌, ℕ, arith, length-append, subst, take}
use Rattle.std.specs.Io.KnownBytes.{Appends}
use Rattle.std.proofs.lemmas.Result.{err_from_is_err_and}
use Rattle.picture_file.proofs.Beginnings.{Appends-front}
use Rattle.picture_file.specs.File.{ppm_header as header_of}
use Rattle.picture_file.proofs.ppm.write_ppm.Goals as goal

pub returns-in_err-ppm_rows : goal.returns-in_err-ppm_rows
returns-in_err-ppm_rows g c =
    let p = err_from_is_err_and c.from_residual-in_err-ppm_rows.result c.from_residual-in_err-ppm_rows.ensures.1 in
    let header = c.in_ok-header.ensures in
    let rows = c.in_err-ppm_rows.ensures.bytes in
    let count : ℕ = c.in_err-ppm_rows.field-0.0.written in
    let all : count ≡ count - 0 = omega arith in
    rw (p.1, p.2) (record {
      all = tt;
      beginning = subst (λ n. Appends (g.W.Write.contents c.args.out.now.inner) (g.W.Write.contents c.ppm_rows.new.out.inner) (take n (header_of c.args.width c.args.height ++ c.args.pixels.now))) all
          (Appends-front _ _ _ (header_of c.args.width c.args.height) c.args.pixels.now count (rw header.count at rows.written.0) header.bytes.all (rw header.count at rows.beginning));
      written = (omega arith, omega (arith, header.count, rows.written.1, length-append (header_of c.args.width c.args.height) c.args.pixels.now));
      failures = omega (arith, rows.failures, header.bytes.failures);
    })
