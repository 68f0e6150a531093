-- Numbers of points and of error codes: each names its point or code, and a point's is one that exists.
use Rattle.std.proofs.Common.{◌≡◌, true, arith}
use Rattle.terms.specs.Points.{point_number, is_point}
use Rattle.terms.specs.ErrorCodes.{error_number}
use Rattle.terms.specs.declared.point.Point.{Point}
use Rattle.terms.specs.declared.error_code.ErrorCode.{ErrorCode}

pub point_exists : (p : Point) → is_point (point_number p) ≡ true
point_exists p = grind arith

pub point_same : (p q : Point) → point_number p ≡ point_number q → p ≡ q
point_same p q e = grind arith

pub error_same : (d e : ErrorCode) → error_number d ≡ error_number e → d ≡ e
error_same d e h = grind arith
