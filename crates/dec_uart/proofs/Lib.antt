mod PointLaws
